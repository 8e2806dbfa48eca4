-- `macro_section::section_change` meets its contract.
use Rattle.macro_section.specs.SectionLaws.{bare-change}
use lib.ListN.{length}
use Rattle.macro_section.proofs.section_change.Goals as goal

pub returns : goal.returns
returns c =
    let l = c.args.list.now.hinted.listed in
    let k = c.write_change.ensures in
    (rw (bare-change l.coded.text.now l.coded.code.now l.firsts.now (length l.firsts.now) c.args.memory.now.calls c.args.cell) at k.0, k.1)
