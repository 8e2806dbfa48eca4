-- `lexer::next_item` meets its contract.
use Rattle.std.proofs.Common.{sym, ◌∙◌, Some}
use Rattle.scanner.specs.declared.Sort.{Sort}
use Rattle.lexer.proofs.Finding.{one_sort}
use Rattle.lexer.proofs.Naming.{next-other, next_word, fine_word}
use Rattle.lexer.proofs.next_item.Goals as goal

pub returns-else-is : goal.returns-else-is
returns-else-is c = next-other c.item_at-t.ensures (sym c.is.ensures ∙ c.if-is.false)

pub returns-then-is : goal.returns-then-is
returns-then-is c =
    let t = c.item_at-t.result in
    let w = one_sort (Some Sort.Word) t.sort (sym c.is.ensures ∙ c.if-is.true) in
    rw (w, fine_word c.item_at-t.ensures w) (next_word c.item_at-t.ensures w c.colon_after-a.ensures)
