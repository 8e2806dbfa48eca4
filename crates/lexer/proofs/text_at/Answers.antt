-- `lexer::text_at` meets its contract.
use Rattle.lexer.proofs.Finding.{text-begins}
use Rattle.lexer.proofs.text_at.Goals as goal

pub returns : goal.returns
returns c = rw (c.mark.ensures, c.unwrap_or.ensures, c.is_some.ensures) (text-begins c.requires c.scan_text-x.ensures)
