-- `macro_marks::is_parameter` meets its contract.
use mathlib.Core.Path.{refl}
use Rattle.macro_marks.proofs.is_parameter.Goals.{else-named-via-then-named+else-is_word, else-named-via-else-named}
use Rattle.macro_marks.proofs.Comparing.{comparing-first, compared-none, compared-end, compared_same, comparing-on}
use Rattle.macro_marks.proofs.is_parameter.Goals as goal

pub loop-t-init : goal.loop-t-init
loop-t-init c = comparing-first _ _ _ c.requires

pub returns-then-is_mark : goal.returns-then-is_mark
returns-then-is_mark c =
    let k = c.next_item.ensures.some _ c.in-Some.is in
    compared-end c.loop-t.invariant k.found k.there c.byte_at.ensures c.is_mark.ensures c.if-is_mark.true

pub is_word-requires : goal.is_word-requires
is_word-requires c = (c.next_item.ensures.some _ c.in-Some.is).found.stands

pub returns-then-is_word : goal.returns-then-is_word
returns-then-is_word c =
    let k = c.next_item.ensures.some _ c.in-Some.is in
    compared_same c.loop-t.invariant k.found k.there c.byte_at.ensures c.is_mark.ensures c.if-is_mark.false c.is_word.ensures (rw (c.if-named.true, c.if-is_word.true) refl)

pub loop-t-preserved : goal.loop-t-preserved
loop-t-preserved c = let k = c.next_item.ensures.some _ c.in-Some.is in
    rw c.is-named.ensures (elim c.else-named.branch [
      | else-named-via-then-named+else-is_word w ↦ comparing-on c.loop-t.invariant k.found k.there c.byte_at.ensures c.is_mark.ensures c.if-is_mark.false w.is_word.ensures (rw (w.if-named.true, w.if-is_word.false) refl)
      | else-named-via-else-named w ↦ comparing-on c.loop-t.invariant k.found k.there c.byte_at.ensures c.is_mark.ensures c.if-is_mark.false refl (rw w.if-named.false refl)
    ])

pub returns : goal.returns
returns c = let k = c.next_item.ensures.none c.in_default.is in compared-none c.loop-t.invariant k.found k.none
