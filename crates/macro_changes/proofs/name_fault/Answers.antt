-- `macro_changes::name_fault` meets its contract.
use Rattle.std.specs.Prelude.{is_some}
use Rattle.macros.specs.Elements.{is_end}
use Rattle.macro_changes.specs.Changing.{shuts}
use Rattle.macro_changes.proofs.Calling.{no_name, a-name}
use Rattle.macro_changes.proofs.Giving.{given_first, until-either}
use Rattle.macro_changes.proofs.name_fault.Goals as goal

pub returns-in_default : goal.returns-in_default
returns-in_default c = no_name (until-either (shuts (is_some c.args.x)) is_end _ (c.next_before.ensures.none c.in_default.is))

pub is_identifier-requires : goal.is_identifier-requires
is_identifier-requires c = (c.next_before.ensures.some _ c.in-Some.is).first.held

pub returns : goal.returns
returns c = a-name (given_first (c.next_before.ensures.some _ c.in-Some.is)) _ c.is_identifier.ensures c.is_none.ensures c.then_some.ensures
