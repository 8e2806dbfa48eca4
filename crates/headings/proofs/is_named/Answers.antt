-- `headings::is_named` meets its contract.
use mathlib.Core.Path.{sym, ap, ◌∙◌}
use Rattle.lists.specs.Lists.{bytes_equal}
use Rattle.heads.specs.HeadLaws.{word-passes}
use Rattle.lexer.specs.Tokens.{word_of}
use Rattle.headings.specs.Headings.{name_by, right_first}
use Rattle.headings.proofs.is_named.Goals as goal

pub returns-then-is : goal.returns-then-is
returns-then-is c =
    let s = c.args.text.now in
    let t = c.in-Some.t in
    let q = bytes_equal (name_by s c.args.mark) in
    c.eq.ensures
    ∙ ap (λ w. bytes_equal w (word_of s t)) c.name_of.ensures
    ∙ sym (word-passes s t (sym c.is.ensures ∙ c.if-is.true) q)
    ∙ ap (right_first s q) (sym c.in-Some.is)
