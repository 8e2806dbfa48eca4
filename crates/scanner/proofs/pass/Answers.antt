-- `scanner::pass` meets its contract.
use Rattle.std.proofs.Common.{arith, refl}
use Rattle.scanner.proofs.Loops.{pair_at, pass-separator, pass-none, pass-comment, pass-told}
use Rattle.scanner.proofs.pass.Goals as goal

pub returns-then-b : goal.returns-then-b
returns-then-b c =
    let s = c.args.text.now in
    let n = c.args.n in
    (omega arith, omega arith, pass-separator s n c.requires (omega (arith, c.type_inv.text n)) c.if-b.true)

pub returns-then-not-starts_with : goal.returns-then-not-starts_with
returns-then-not-starts_with c =
    let s = c.args.text.now in
    let n = c.args.n in
    pass-none s n c.requires (omega (arith, c.type_inv.text n)) c.if-b.false (pair_at s n 46 41 c.starts_with.ensures.value c.if-not-starts_with.true)

pub returns : goal.returns
returns c =
    let s = c.args.text.now in
    let n = c.args.n in
    let inner = pass-comment s n c.requires (pair_at s n 46 41 c.starts_with.ensures.value c.if-not-starts_with.false) in
    rw c.ok_or.ensures.value (pass-told s n inner.1 refl c.past_comment.result c.past_comment.ensures c.map.result c.map.ensures.cases)
