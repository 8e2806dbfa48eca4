-- `macro_reading::read_section` meets its contract.
use Rattle.macro_reading.proofs.Finishing.{section-done}
use Rattle.macro_reading.proofs.read_section.Goals as goal

pub returns : goal.returns
returns c = rw (c.put-2.ensures, c.put.ensures) (section-done c.requires c.read_changes-r.ensures)
