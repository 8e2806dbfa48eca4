-- `macro_elements::next_element` meets its contract.
use Rattle.std.proofs.Common.{◌≡◌, ap, ◌∙◌, Some, false, rules}
use native.Mathlib.Omega.{arith}
use Rattle.std.specs.Prelude.{is_some}
use Rattle.lexer.proofs.Finding.{is_spelled}
use Rattle.macro_elements.proofs.Linking.{same_length, none_next, text-next, mark-next, word-next}
use Rattle.macro_elements.proofs.next_element.Goals as goal

pub item_at-t-requires : goal.item_at-t-requires
item_at-t-requires c = omega (arith, same_length c.args.source.now.text.now c.args.source.now.marked.now c.requires.copy)

pub returns-in_err-sort : goal.returns-in_err-sort
returns-in_err-sort c = rw c.from_residual.ensures (none_next c.requires c.item_at-t.ensures c.in_err-sort.was)

pub joined_end-joined-requires : goal.joined_end-joined-requires
joined_end-joined-requires c = record { copy = c.requires.copy; size = c.requires.size; most = omega (arith, same_length c.args.source.now.text.now c.args.source.now.marked.now c.requires.copy, c.item_at-t.ensures.stands.most) }

pub text_end-requires : goal.text_end-requires
text_end-requires c =
    let y = c.item_at-t.ensures.stands in
    let z = y.some (ap is_some c.in_ok-sort.was) in
    omega (arith, same_length c.args.source.now.text.now c.args.source.now.marked.now c.requires.copy, y.behind, y.most)

pub returns-in-Word : goal.returns-in-Word
returns-in-Word c =
    rw (c.in-Word.is, c.unwrap_or.ensures)
    (word-next c.requires c.item_at-t.ensures (c.in_ok-sort.was ∙ ap Some c.in-Word.is) _ c.byte_at-byte.ensures _ c.joined_end-joined.ensures)

pub returns-in-Text : goal.returns-in-Text
returns-in-Text c =
    rw (c.alone.ensures, c.in-Text.is)
    (text-next c.requires c.item_at-t.ensures _ _ c.byte_at-byte.ensures (c.in_ok-sort.was ∙ ap Some c.in-Text.is) c.text_end.ensures)

pub returns-in-Colon : goal.returns-in-Colon
returns-in-Colon c =
    let bare : is_spelled (Some c.in_ok-sort.sort) ≡ false = search rules in
    rw c.alone-in-Colon.ensures (mark-next c.requires c.item_at-t.ensures _ _ c.byte_at-byte.ensures c.in_ok-sort.was bare)
