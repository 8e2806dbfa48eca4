-- `macro_reading::definition_fault` meets its contract.
use Rattle.std.proofs.Common.{ap}
use Rattle.statements.specs.Faults.{Fault, lower}
use Rattle.std.specs.Prelude.{not}
use Rattle.macro_changes.proofs.Giving.{one-fault}
use Rattle.macro_reading.proofs.definition_fault.Goals as goal

pub returns : goal.returns
returns c = rw (c.lower-2.ensures, c.lower.ensures, c.then_some.ensures) (ap (λ (z : Fault). lower c.args.header (lower z c.args.body)) (one-fault (not c.args.sound) c.args.at))
