-- `macro_changes::end_of_call` meets its contract.
use borrow.Author.Rules.{rules}
use native.Mathlib.Omega.{arith}
use Rattle.std.proofs.Common.{ap, sym, ◌∙◌, ◌≡◌, cond, eqb, ◌+◌, ℕ}
use Rattle.lists.specs.BoolLaws.{sign-most}
use Rattle.macro_changes.proofs.Calling.{ends-at_end, ends-at-none, ends-at-close}
use Rattle.macro_changes.proofs.end_of_call.Goals as goal

pub returns-in_default : goal.returns-in_default
returns-in_default c = record { is = λ closing d. ends-at-none c.requires.size c.requires.most (c.next_element.ensures.none c.in_default.is) }

pub overflow_add-result : goal.overflow_add-result
overflow_add-result c =
    let h = (c.next_element.ensures.some _ c.in-Some.is).held in
    let k : c.from.result ≡ cond (eqb c.in-Some.t.byte 59) 1 0 = search rules in
    omega (arith, k, sign-most (eqb c.in-Some.t.byte 59), h.own, h.ends, h.small)

pub returns-then-is : goal.returns-then-is
returns-then-is c =
    let k : c.from.result ≡ cond (eqb c.in-Some.t.byte 59) 1 0 = search rules in
    record { is = λ closing d. ends-at_end c.requires.size c.requires.most (c.next_element.ensures.some _ c.in-Some.is) (sym c.is.ensures ∙ c.if-is.true) (ap (λ (z : ℕ). c.in-Some.t.at + z) k) }

pub returns : goal.returns
returns c = record { is = λ closing d. ends-at-close c.requires.size c.requires.most (c.next_element.ensures.some _ c.in-Some.is) (sym c.is.ensures ∙ c.if-is.false) d }
