-- `lexer::item_at` meets its contract.
use Rattle.std.proofs.Common.{◌≡◌, refl, sym, ap, ◌∙◌, Some, None, false, rules}
use Rattle.scanner.specs.Sorts.{sort_in}
use Rattle.lexer.proofs.Finding.{is_spelled, other-begins, open-found, end-found, item-found}
use Rattle.lexer.proofs.item_at.Goals as goal

pub returns-in-Err : goal.returns-in-Err
returns-in-Err c = rw c.mark.ensures (open-found c.in-Err.ensures refl)

pub returns-then-text-at : goal.returns-then-text-at
returns-then-text-at c = rw c.mark-then-text-at.ensures (end-found c.in-Ok.ensures refl c.if-text-at.true)

pub returns-in_default : goal.returns-in_default
returns-in_default c =
    rw c.mark-in_default.ensures
    (item-found c.in-Ok.ensures refl c.if-text-at.false (sym c.sort_of.ensures ∙ ap sort_in c.in_default.is) (other-begins None c.args.text.now c.in-Ok.at c.if-text-at.false refl))

pub returns-in-Word : goal.returns-in-Word
returns-in-Word c = item-found c.in-Ok.ensures refl c.if-text-at.false (sym c.sort_of.ensures ∙ ap sort_in c.in-Some.is ∙ ap (λ k. sort_in (Some k)) c.in-Word.is) c.word_at.ensures

pub returns-in-Text : goal.returns-in-Text
returns-in-Text c = item-found c.in-Ok.ensures refl c.if-text-at.false (sym c.sort_of.ensures ∙ ap sort_in c.in-Some.is ∙ ap (λ k. sort_in (Some k)) c.in-Text.is) c.text_at.ensures

pub returns-in-Colon : goal.returns-in-Colon
returns-in-Colon c =
    let bare : is_spelled (Some c.in-Some.sort) ≡ false = search rules in
    rw c.mark-in-Colon.ensures
    (item-found c.in-Ok.ensures refl c.if-text-at.false (sym c.sort_of.ensures ∙ ap sort_in c.in-Some.is) (other-begins (Some c.in-Some.sort) c.args.text.now c.in-Ok.at c.if-text-at.false bare))
