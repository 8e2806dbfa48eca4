-- `macro_memory::same_arguments` meets its contract.
use Rattle.std.proofs.Common.{◌∙◌, arith, rules, refl, ◌≡◌, ◌<◌, ℕ, length, get_or}
use Rattle.std.proofs.Math.Path.{subst}
use Rattle.std.proofs.lemmas.Iterator.{YieldsList-from_range, cases_from_all}
use Rattle.std.proofs.lemmas.List.FromFn.{get_or-range_with_len, length-range_with_len}
use Rattle.std.specs.List.{range_with_len}
use Rattle.std.specs.Bool.{⊤}
use borrow.Author.Tests.{tests}
use Rattle.macros.specs.Expansion.{filled_in}
use Rattle.macro_code.specs.Code.{given_in, arguments_in, argument_cell}
use Rattle.macro_memory.specs.SameLaws.{alike_all}
use Rattle.macro_memory.proofs.same_arguments.Goals as goal

pub returns : goal.returns
returns c =
    let x = c.args.here.now in
    let s = x.coded.text.now in
    let d = x.coded.code.now in
    let n = c.low-n.result in
    let Same : ℕ → Type 0 = λ k.
    filled_in (arguments_in s d x.calls.now x.depth) (given_in s d (argument_cell c.args.pair.one k)) ≡ filled_in (arguments_in s d c.args.others.now x.depth) (given_in s d (argument_cell c.args.pair.other k)) in
    let all = cases_from_all _ _ _ Same (λ k. ⊤) c.all.ensures.ran (YieldsList-from_range 0 n n refl (omega arith)) (λ j q k. search (rules, tests)) (λ j q k. search (rules, tests)) in
    λ z. alike_all s d x.calls.now c.args.others.now x.depth c.args.pair.one c.args.pair.other n c.low-n.ensures.0 (c.if-n-low.false ∙ c.low.ensures.0)
    (λ j m.
    let h : j < length (range_with_len 0 n) = omega (arith, length-range_with_len 0 n, m) in
    let e : get_or (range_with_len 0 n) j 0 ≡ j = omega (arith, get_or-range_with_len 0 n j 0 m) in
    subst Same e ((rw z at all) j 0 (omega arith) h))
