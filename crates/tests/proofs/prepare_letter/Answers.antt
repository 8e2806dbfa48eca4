-- `tests::prepare_letter` meets its contract.
-- the letters left by N and T
use Prim.Native.Nat.{◌-◌}
use Rattle.tests.proofs.Values.{any-read, letter-told}
use Rattle.tests.proofs.prepare_letter.Goals as goal

pub returns-in-N : goal.returns-in-N
returns-in-N c = letter-told c.in-N.is c.requires.readable.index (c.prepare_count.ensures c.args.given.now)

pub returns-in-T : goal.returns-in-T
returns-in-T c = letter-told c.in-T.is c.requires.readable.index (any-read c.args.state.now.store _ (c.args.n - 1) c.put_all.ensures)
