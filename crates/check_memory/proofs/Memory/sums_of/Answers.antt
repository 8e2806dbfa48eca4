-- `check_memory::Memory::sums_of` meets its contract.
use native.Mathlib.Omega.{arith}
use Rattle.check_memory.proofs.Loops.{whole-expression, expression-sums, whole-file, file-sums}
use Rattle.check_memory.proofs.Memory.sums_of.Goals as goal

pub count-t-requires : goal.count-t-requires
count-t-requires c = record { whole = whole-expression c.requires.whole.exprs (omega arith) c.string-v.ensures; fitting = tt }

pub returns-then-k-lt-FIRST_FILE : goal.returns-then-k-lt-FIRST_FILE
returns-then-k-lt-FIRST_FILE c = expression-sums c.requires.whole.exprs (omega arith) c.string-v.ensures c.count-t.ensures

pub totals_of-t-requires : goal.totals_of-t-requires
totals_of-t-requires c = whole-file (omega arith) (omega arith) c.string-v.ensures c.requires.whole.files

pub count-q-requires : goal.count-q-requires
count-q-requires c = record { whole = whole-file (omega arith) (omega arith) c.string-v.ensures c.requires.whole.files; fitting = tt }

pub returns : goal.returns
returns c = file-sums (omega arith) (omega arith) c.string-v.ensures c.totals_of-t.ensures c.count-q.ensures
