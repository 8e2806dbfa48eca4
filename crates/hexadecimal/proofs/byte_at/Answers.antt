-- `hexadecimal::byte_at` meets its contract.
use Rattle.std.proofs.Common.{rules, ◌≡◌, ◌∙◌, sym, arith, None}
use Rattle.hexadecimal.proofs.Laws.{byte-1, byte-2, byte-3, digit-most}
use Rattle.hexadecimal.proofs.byte_at.Goals as goal

pub returns-in_err-high : goal.returns-in_err-high
returns-in_err-high c =
    let e : c.from_residual.result ≡ None = search rules in
    e ∙ byte-1 _ _ (sym c.value_of.ensures ∙ c.in_err-high.was)

pub returns-in_err-low : goal.returns-in_err-low
returns-in_err-low c =
    let e : c.from_residual-in_err-low.result ≡ None = search rules in
    e ∙ byte-2 _ _ (sym c.value_of-2.ensures ∙ c.in_err-low.was)

pub overflow_mul-result : goal.overflow_mul-result
overflow_mul-result c = omega (arith, digit-most _ 0 c.in_ok-high.high (sym c.value_of.ensures ∙ c.in_ok-high.was))

pub overflow_add-result : goal.overflow_add-result
overflow_add-result c = omega (arith, digit-most _ 0 c.in_ok-high.high (sym c.value_of.ensures ∙ c.in_ok-high.was), digit-most _ 0 c.in_ok-low.low (sym c.value_of-2.ensures ∙ c.in_ok-low.was))

pub returns : goal.returns
returns c = byte-3 _ _ c.in_ok-high.high c.in_ok-low.low (sym c.value_of.ensures ∙ c.in_ok-high.was) (sym c.value_of-2.ensures ∙ c.in_ok-low.was)
