-- `macro_marks::plain_end` meets its contract.
use native.Mathlib.Omega.{arith}
use Rattle.macro_marks.proofs.Passing.{plain_ahead}
use Rattle.macro_marks.proofs.plain_end.Goals as goal

pub overflow_add-result : goal.overflow_add-result
overflow_add-result c = omega (arith, (plain_ahead _ _ c.requires c.ordinary.ensures).most)

pub returns : goal.returns
returns c = plain_ahead _ _ c.requires c.ordinary.ensures
