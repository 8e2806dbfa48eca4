-- `state_lines::is_sound` meets its contract.
use Rattle.std.proofs.Common.{◌≡◌, ◌∙◌, ap, sym, refl, arith, ℕ, ◌/◌, ◌+◌, length, Some}
use lib.Dec.{eqb}
use Rattle.state_lines.specs.Sums.{told_sum}
use Rattle.state_lines.proofs.Laws.{told_two, out-even, out-last, out-short, out-none, out-sum, out-all}
use Rattle.state_lines.proofs.is_sound.Goals as goal

pub returns-then-n-eq0 : goal.returns-then-n-eq0
returns-then-n-eq0 c = let l = c.args.line.now in out-even l (length l / 2) (omega (arith, c.if-n-eq0.true))

pub returns-then-line-k-ne10 : goal.returns-then-line-k-ne10
returns-then-line-k-ne10 c = let l = c.args.line.now in out-last l (length l / 2) (omega (arith, c.if-n-eq0.false)) c.if-line-k-ne10.true

pub returns-then-k-lt-BESIDE : goal.returns-then-k-lt-BESIDE
returns-then-k-lt-BESIDE c = let l = c.args.line.now in out-short l (length l / 2) (omega (arith, c.if-n-eq0.false)) c.if-k-lt-BESIDE.true

pub returns-in_default : goal.returns-in_default
returns-in_default c =
    let l = c.args.line.now in
    let k = length l / 2 in
    out-none l k (omega (arith, c.if-n-eq0.false)) (sym c.sum_digits.ensures ∙ c.in_default.is)

pub returns-then-sum-ne0 : goal.returns-then-sum-ne0
returns-then-sum-ne0 c =
    let l = c.args.line.now in
    let k = length l / 2 in
    out-sum l k (omega (arith, c.if-n-eq0.false)) c.in-Some.sum (sym c.sum_digits.ensures ∙ c.in-Some.is) c.if-sum-ne0.true

pub contents_length-requires : goal.contents_length-requires
contents_length-requires c =
    let l = c.args.line.now in
    let k = length l / 2 in
    let odd = c.if-n-eq0.false in
    let e : told_sum l k ≡ Some 0 = sym c.sum_digits.ensures ∙ c.in-Some.is ∙ ap (λ (n : ℕ). Some n) c.if-sum-ne0.false in
    record {
      there = omega (arith, c.if-k-lt-BESIDE.false);
      high = told_two l k (omega (arith, odd)) e c.if-k-lt-BESIDE.false 4 (omega arith);
      low = told_two l k (omega (arith, odd)) e c.if-k-lt-BESIDE.false 6 (omega arith);
    }

pub overflow_add-result : goal.overflow_add-result
overflow_add-result c = omega (arith, c.contents_length.ensures.most)

pub returns : goal.returns
returns c =
    let l = c.args.line.now in
    let k = length l / 2 in
    let e : told_sum l k ≡ Some 0 = sym c.sum_digits.ensures ∙ c.in-Some.is ∙ ap (λ (n : ℕ). Some n) c.if-sum-ne0.false in
    out-all l k (omega (arith, c.if-n-eq0.false)) _ _ _ c.if-line-k-ne10.false e refl refl c.if-k-lt-BESIDE.false (ap (λ (n : ℕ). eqb k (5 + n)) c.contents_length.ensures.is)
