-- `finding::find_number` meets its contract.
use native.Mathlib.Omega.{arith}
use borrow.Author.Tests.{tests}
use lib.Dec.{eqb}
use lib.ListN.{take, drop}
use mathlib.Core.Path.{◌≡◌, ap, ◌∙◌}
use Prim.Native.Nat.{ℕ, ◌+◌, ◌-◌}
use Rattle.std.proofs.Common.{rules}
use Rattle.std.specs.Prelude.{position}
use Rattle.std.proofs.lemmas.Iterator.{YieldsList-from_slice}
use Rattle.std.proofs.lemmas.Iterator.Search.{position_from_yields_List}
use Rattle.layout.specs.Places.{first_number}
use Rattle.finding.proofs.Found.{number-located}
use Rattle.finding.proofs.find_number.Goals as goal

pub returns : goal.returns
returns c =
    let n : ℕ = c.numbers.result in
    let z : first_number + n - first_number ≡ n = omega arith in
    let e = position_from_yields_List (λ x. eqb x c.args.code) _ _ c.position.result c.position.ensures.ran (YieldsList-from_slice _ c.iter.ensures.rest) (λ x b q k. search (rules, tests)) in
    number-located c.args.table.cells.now c.args.code c.numbers.ensures.is (omega (arith, c.numbers.ensures.is, c.requires.most))
    (omega (arith, c.numbers.ensures.is, c.requires.most, c.args.table.long))
    (e ∙ ap (λ (m : ℕ). position (λ x. eqb x c.args.code) (take m (drop first_number c.args.table.cells.now))) z)
