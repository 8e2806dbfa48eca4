-- `macro_changes::name_fault` meets its contract.
use Rattle.std.specs.Prelude.{is_some}
use Rattle.macro_changes.specs.Changing.{ends_given}
use Rattle.macro_changes.proofs.name_fault.Given as goal

abbrev pub ghost-next_before : goal.ghost-next_before
ghost-next_before a = ends_given (is_some a.ends.0.now)
