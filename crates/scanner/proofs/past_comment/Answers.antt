-- `scanner::past_comment` meets its contract.
use Rattle.std.proofs.Common.{sym, ◌∙◌, arith}
use Rattle.scanner.proofs.Loops.{pair_at, comment-on, comment-closed, comment-out}
use Rattle.scanner.proofs.past_comment.Goals as goal

pub returns-then-starts_with : goal.returns-then-starts_with
returns-then-starts_with c =
    let h = c.loop-i in
    let s = c.args.text.now in
    let e = pair_at s h.i 41 46 c.starts_with.ensures.value c.if-starts_with.true in
    (omega arith, omega (arith, (comment-closed s h.i 0 c.loop-i-test.true e).0), λ p. sym (h.invariant p) ∙ sym (comment-closed s h.i p c.loop-i-test.true e).1)

pub loop-i-preserved : goal.loop-i-preserved
loop-i-preserved c = λ p.
    let h = c.loop-i in
    let s = c.args.text.now in
    comment-on s h.i p c.loop-i-test.true (pair_at s h.i 41 46 c.starts_with.ensures.value c.if-starts_with.false) ∙ h.invariant p

pub returns : goal.returns
returns c = λ p. sym (c.loop-i.invariant p) ∙ comment-out c.args.text.now c.loop-i.i p c.loop-i-test.false
