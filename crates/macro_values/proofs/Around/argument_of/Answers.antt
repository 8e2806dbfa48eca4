-- `macro_values::Around::argument_of` meets its contract.
use Rattle.std.specs.Prelude.{◌≡◌, ℕ, ◌-◌, ◌≤◌, ltb}
use Rattle.std.proofs.Common.{refl, ap, ◌∙◌, arith}
use Rattle.macro_code.specs.Code.{argument_cell}
use Rattle.macro_values.specs.ValueLaws.{argument-told, argument-if}
use Rattle.macro_values.specs.Values.{has_argument}
use Rattle.macro_values.proofs.Around.argument_of.Goals as goal

pub returns-in_err-checked_sub : goal.returns-in_err-checked_sub
unfolding has_argument
returns-in_err-checked_sub c = let z : c.args.d ≡ 0 = omega (arith, c.in_err-checked_sub.ensures) in rw (c.from_residual.ensures, z) refl

pub returns : goal.returns
returns c =
    let a = c.args.self.now in
    let p : 1 ≤ c.args.d = omega (arith, c.in_ok-checked_sub.ensures) in
    let e : c.in_ok-checked_sub.field-0 ≡ c.args.d - 1 = omega (arith, c.in_ok-checked_sub.ensures) in
    rw c.then_some.ensures
    (argument-if a.coded.code.now a.calls.now c.args.d c.args.k (ltb c.args.k c.low.result)
    (argument-told a.coded.code.now a.calls.now c.args.d c.args.k c.cell_at-call.result c.low.result p (rw e at c.cell_at-call.ensures.0) c.low.ensures.0)
    p
    (c.argument_cell.ensures.0 ∙ ap (λ (i : ℕ). argument_cell i c.args.k) (rw e at c.cell_at-call.ensures.0))
    (omega (arith, c.argument_cell.ensures.1, c.cell_at-call.ensures.1)))
