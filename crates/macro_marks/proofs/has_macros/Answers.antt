-- `macro_marks::has_macros` meets its contract.
use native.Mathlib.Omega.{arith}
use Rattle.macro_marks.specs.ItemLaws.{further}
use Rattle.macro_marks.proofs.Seeking.{seeking-first, seeking-past, none_left, one-here, seeking-on}
use Rattle.macro_marks.proofs.has_macros.Goals as goal

pub loop-t-init : goal.loop-t-init
loop-t-init c = seeking-first _

pub returns-then-is_mark : goal.returns-then-is_mark
returns-then-is_mark c =
    let k = c.next_item.ensures.some _ c.in-Some.is in
    one-here (seeking-past c.loop-t.invariant c.plain_end.ensures) k.found k.there c.byte_at.ensures c.is_mark.ensures c.if-is_mark.true

pub loop-t-smaller : goal.loop-t-smaller
loop-t-smaller c = let k = c.next_item.ensures.some _ c.in-Some.is in omega (arith, further k.found k.there, k.found.stands.most, c.plain_end.ensures.from)

pub loop-t-preserved : goal.loop-t-preserved
loop-t-preserved c =
    let k = c.next_item.ensures.some _ c.in-Some.is in
    seeking-on (seeking-past c.loop-t.invariant c.plain_end.ensures) k.found k.there c.byte_at.ensures c.is_mark.ensures c.if-is_mark.false

pub returns : goal.returns
returns c = let k = c.next_item.ensures.none c.in_default.is in none_left (seeking-past c.loop-t.invariant c.plain_end.ensures) k.found k.none
