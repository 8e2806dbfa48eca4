-- `macro_changes::is_wrong` meets its contract.
use mathlib.Core.Path.{refl}
use Rattle.macro_changes.specs.Changing.{wrong_by}
use Rattle.macro_changes.proofs.is_wrong.Goals as goal

pub is_listed-requires : goal.is_listed-requires
is_listed-requires c = c.requires

pub returns : goal.returns
unfolding wrong_by
returns c = rw (c.is_mark.ensures c.args.text.now, c.is_mark-2.ensures c.args.text.now, c.is_mark-3.ensures c.args.text.now, c.is_some.ensures, c.is_listed.ensures, c.is.ensures) refl
