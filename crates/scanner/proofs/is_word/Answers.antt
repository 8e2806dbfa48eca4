-- `scanner::is_word` meets its contract.
use borrow.Author.Rules.{rules}
use Rattle.scanner.proofs.Bytes.{ranges-word}
use Rattle.scanner.proofs.is_word.Goals as goal

pub returns : goal.returns
returns c = rw (c.is_capital.ensures, c.is_digit.ensures) (ranges-word _ (search rules))
