-- `scanner::allows` meets its contract.
use borrow.Author.Rules.{rules}
use Rattle.scanner.proofs.Bytes.{pair-allowed, plain-allowed}
use Rattle.scanner.proofs.allows.Goals as goal

pub returns-then-star : goal.returns-then-star
returns-then-star c = rw (c.if-star.true, c.is_some.ensures, c.pair_of.ensures) (pair-allowed _ (search rules))

pub returns : goal.returns
returns c = rw (c.if-star.false, c.is_known.ensures) (plain-allowed _ (search rules))
