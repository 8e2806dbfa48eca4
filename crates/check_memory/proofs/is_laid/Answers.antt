-- `check_memory::is_laid` meets its contract.
use Rattle.check_memory.proofs.Loops.{laid_beyond, laid_within}
use Rattle.check_memory.proofs.is_laid.Goals as goal

pub returns-then-end-gt-STATE : goal.returns-then-end-gt-STATE
returns-then-end-gt-STATE c = laid_beyond c.requires c.if-end-gt-STATE.true

pub returns : goal.returns
returns c = laid_within c.requires c.if-end-gt-STATE.false c.three_at.ensures c.three_at-2.ensures c.are_zeros.ensures
