-- `macro_marks::is_word` meets its contract.
use mathlib.Core.Path.{sym, ◌∙◌}
use Rattle.lexer.proofs.Finding.{word-chars, one_sort}
use Rattle.std.specs.Prelude.{Some}
use Rattle.scanner.specs.declared.Sort.{Sort}
use Rattle.macro_marks.proofs.is_word.Goals as goal

pub returns-then-is : goal.returns-then-is
returns-then-is c =
    let e = sym c.is.ensures ∙ c.if-is.true in
    rw (e, word-chars c.args.text.now c.args.t (one_sort (Some Sort.Word) c.args.t.sort e)) c.eq.ensures
