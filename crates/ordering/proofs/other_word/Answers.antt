-- `ordering::other_word` meets its contract.
use native.Mathlib.Omega.{arith}
use Rattle.ordering.proofs.Spelling.{other-named}
use Rattle.ordering.proofs.other_word.Goals as goal

pub overflow_sub-n : goal.overflow_sub-n
overflow_sub-n c = omega (arith, (c.requires.good.index _ _ c.in-Indexed.is).from)

pub first_word-requires : goal.first_word-requires
first_word-requires c = other-named c.requires c.in-Indexed.is
