-- `input_equality::compare` meets its contract.
use native.Mathlib.Omega.{arith}
use Rattle.input_equality.proofs.Characters.{compared-done}
use Rattle.input_equality.proofs.compare.Goals as goal

pub take_chars-t-requires : goal.take_chars-t-requires
take_chars-t-requires c =
    let k = c.test_of.ensures in
    record { fitting = k.fitting c.requires.whole; room = omega (arith, k.long, c.requires.room) }

pub returns : goal.returns
returns c = compared-done c.unread-rest.ensures c.min-n.ensures c.args.arg c.args.given.now (rw c.test_of.ensures.firsts at c.take_chars-t.ensures) c.minus_unless.ensures
