-- `macro_changes::read_change` meets its contract.
use Rattle.std.specs.Prelude.{is_some}
use Rattle.macro_changes.specs.Changing.{shuts}
use Rattle.macro_changes.proofs.read_change.Given as goal

abbrev pub ghost-next_before : goal.ghost-next_before
ghost-next_before a = shuts (is_some a.ends.0.now)
