-- `packed::chars_are` meets its contract.
use mathlib.Core.Path.{◌≡◌, sym, ◌∙◌}
use Prim.Native.Nat.{ℕ, ◌+◌, ◌-◌, ◌/◌, ◌<◌}
use native.Mathlib.Omega.{arith}
use lib.ListN.{get_or, length}
use Rattle.packed.proofs.Bytes.{end-wrong, end-right, cell-wrong, cell-right}
use Rattle.packed.proofs.chars_are.Goals as goal

pub returns-then-not-end_is : goal.returns-then-not-end_is
returns-then-not-end_is c =
    let b : (j : ℕ) → get_or c.args.word.now j 0 < 256 = λ j. omega (arith, c.type_inv.word j) in
    end-wrong c.args.row.now c.told-row c.fits-row c.args.word.now b c.requires (length c.args.word.now / 4) (omega arith) (sym c.end_is.ensures ∙ c.if-not-end_is.true)

pub returns-then-row-q : goal.returns-then-row-q
returns-then-row-q c =
    let b : (j : ℕ) → get_or c.args.word.now j 0 < 256 = λ j. omega (arith, c.type_inv.word j) in
    cell-wrong c.args.row.now c.told-row c.fits-row c.args.word.now b c.requires (c.loop-q.q - 1) (omega arith) c.cell_of.result c.cell_of.ensures c.if-row-q.true

pub loop-q-preserved : goal.loop-q-preserved
loop-q-preserved c =
    let b : (j : ℕ) → get_or c.args.word.now j 0 < 256 = λ j. omega (arith, c.type_inv.word j) in
    let l = c.loop-q in
    let e : l.q - 1 + 1 ≡ l.q = omega arith in
    cell-right c.args.row.now c.told-row c.fits-row c.args.word.now b c.requires (l.q - 1) (omega arith) c.cell_of.result c.cell_of.ensures c.if-row-q.false (rw e l.invariant)

pub returns : goal.returns
returns c =
    let b : (j : ℕ) → get_or c.args.word.now j 0 < 256 = λ j. omega (arith, c.type_inv.word j) in
    end-right c.args.row.now c.told-row c.fits-row c.args.word.now b c.requires c.loop-q.q (omega arith) c.loop-q.invariant
