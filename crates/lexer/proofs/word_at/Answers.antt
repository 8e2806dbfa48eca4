-- `lexer::word_at` meets its contract.
use Rattle.lexer.proofs.Finding.{word-begins}
use Rattle.lexer.proofs.word_at.Goals as goal

pub returns : goal.returns
returns c = rw c.mark.ensures (word-begins c.requires c.word_end-end.ensures)
