-- `state_lines::sum_digits` meets its contract. The invariant: s is the sum of the first j bytes, all digits.
use Rattle.std.proofs.Common.{rules, ◌≡◌, ◌∙◌, ap, sym, arith, ℕ, None, Some}
use Rattle.state_lines.proofs.Laws.{summed-none, summed_turn, summed-stops, summed-all}
use Rattle.state_lines.proofs.sum_digits.Goals as goal

pub loop-j-init : goal.loop-j-init
loop-j-init c = (omega arith, summed-none c.args.line.now)

pub returns-in_err-b : goal.returns-in_err-b
returns-in_err-b c =
    let l = c.args.line.now in
    let loop = c.loop-j in
    let e : c.from_residual.result ≡ None = search rules in
    e ∙ summed-stops l c.args.n loop.j loop.s loop.invariant.1 c.requires (omega arith) (sym c.byte_at.ensures ∙ c.in_err-b.was)

pub loop-j-preserved : goal.loop-j-preserved
loop-j-preserved c =
    let l = c.args.line.now in
    let loop = c.loop-j in
    let b : c.in_ok-b.b ≡ c.from.result = sym c.from.ensures in
    let told = sym c.byte_at.ensures ∙ c.in_ok-b.was ∙ ap (λ (n : ℕ). Some n) b in
    (omega arith, summed_turn l c.args.n loop.j loop.s loop.invariant.1 c.requires (omega arith) c.from.result told)

pub returns : goal.returns
returns c =
    let loop = c.loop-j in
    summed-all c.args.line.now c.args.n loop.j loop.s loop.invariant.1 (omega arith) (omega arith)
