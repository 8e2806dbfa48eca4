-- `macro_section::write_kept` meets its contract.
use Rattle.macro_section.specs.SectionLaws.{kept-placed}
use Rattle.macro_section.proofs.write_kept.Goals as goal

pub returns : goal.returns
returns c =
    let a = c.args in
    kept-placed _ a.from a.v c.append-written.result a.out.now _ a.places.now _ c.append-written.ensures (rw c.unwrap_or.ensures at c.write_places.ensures)
