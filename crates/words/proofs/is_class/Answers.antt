-- `words::is_class` meets its contract.
use Rattle.words.specs.Words.{is_class}
use Rattle.words.proofs.Loops.{filled-by}
use Rattle.words.proofs.is_class.Goals as goal

pub returns : goal.returns
unfolding is_class
returns c = rw (c.is_empty.ensures, c.all_class_letters.ensures, filled-by c.args.w.now)
