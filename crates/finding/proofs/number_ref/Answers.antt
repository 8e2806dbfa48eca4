-- `finding::number_ref` meets its contract.
use native.Mathlib.Omega.{arith}
use mathlib.Core.Path.{refl, sym, ◌∙◌}
use Prim.Native.Nat.{◌-◌}
use Rattle.finding.proofs.Found.{number_told}
use Rattle.finding.proofs.References.{small-number, large-number}
use Rattle.finding.proofs.number_ref.Goals as goal

pub returns-then-is_small : goal.returns-then-is_small
returns-then-is_small c = small-number c.args.table.cells.now c.args.code (c.args.code - 8388592) (sym c.is_small.ensures ∙ c.if-is_small.true) refl

pub returns : goal.returns
returns c =
    large-number c.args.table.cells.now c.args.code c.unwrap_or.result
    (number_told c.args.table.cells.now c.args.code c.find_number.ensures c.numbers.ensures.is (omega (arith, c.numbers.ensures.is, c.requires.most)) c.unwrap_or.ensures)
    (sym c.is_small.ensures ∙ c.if-is_small.false)
