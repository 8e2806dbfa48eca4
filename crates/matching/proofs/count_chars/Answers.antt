-- `matching::count_chars` meets its contract.
use Rattle.characters.specs.Below.Lists.{among}
use Rattle.matching.specs.Tests.{in_class}
use Rattle.matching.proofs.Counting.{chars-met}
use Rattle.matching.proofs.count_chars.Goals as goal

pub returns-in-Class : goal.returns-in-Class
returns-in-Class c = rw (c.in-Class.is, c.taken_to.ensures) (chars-met c.args.s.now _ (in_class c.in-Class.mask) c.place_of_class.ensures)

pub returns-in-Among : goal.returns-in-Among
returns-in-Among c =
    rw (c.in-Among.is, c.taken_to-in-Among.ensures) (chars-met c.args.s.now _ (λ b. among b c.in-Among.given.now) c.place_of.ensures)
