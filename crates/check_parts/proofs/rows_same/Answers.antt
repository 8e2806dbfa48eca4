-- `check_parts::rows_same` meets its contract.
use Rattle.std.proofs.Common.{◌≡◌, refl, arith, eqb, get_or}
use Prim.Native.Nat.{ℕ, ◌+◌, ◌≤◌, ◌<◌}
use borrow.Author.Tests.{eq-eqb, ne_eqb}
use mathlib.Core.Bool.{Bool}
use mathlib.Core.List.{List}
use Rattle.layout.specs.Cells.{cell}
use Rattle.packed.specs.Packed.{table_of}
use Rattle.table.proofs.Decode.{cell_in}
use Rattle.check_parts.specs.PassLaws.{loop-stop, loop-on, loop-end}
use Rattle.check_parts.proofs.rows_same.Goals as goal

-- whether two rows of the table have one cell x, and how the source asks it
abbrev same_at : List ℕ → ℕ → ℕ → ℕ → Bool
same_at c i j x = eqb (cell (table_of c) (i + x)) (cell (table_of c) (j + x))

asked : (c : List ℕ) (i j q : ℕ) → i + 16 ≤ 8192 → j + 16 ≤ 8192 → q < 16 → eqb (get_or c (i + q) 0) (get_or c (j + q) 0) ≡ same_at c i j q
asked c i j q h k l = rw (cell_in c (i + q) (omega arith), cell_in c (j + q) (omega arith)) refl

pub returns-then-table-first : goal.returns-then-table-first
returns-then-table-first c =
    let h = c.loop-q in
    let s = c.args.table.cells.now in
    loop-stop (same_at s c.args.first c.args.second) 16 h.q _ h.invariant (eqb (get_or s (c.args.first + h.q) 0) (get_or s (c.args.second + h.q) 0))
    (asked s c.args.first c.args.second h.q c.requires.0 c.requires.1 c.loop-q-test.true) c.loop-q-test.true (ne_eqb _ _ c.if-table-first.true)

pub loop-q-preserved : goal.loop-q-preserved
loop-q-preserved c =
    let h = c.loop-q in
    let s = c.args.table.cells.now in
    loop-on (same_at s c.args.first c.args.second) 16 h.q _ h.invariant (eqb (get_or s (c.args.first + h.q) 0) (get_or s (c.args.second + h.q) 0))
    (asked s c.args.first c.args.second h.q c.requires.0 c.requires.1 c.loop-q-test.true) c.loop-q-test.true (eq-eqb _ _ c.if-table-first.false)

pub returns : goal.returns
returns c =
    let h = c.loop-q in
    loop-end (same_at c.args.table.cells.now c.args.first c.args.second) 16 h.q _ h.invariant (omega (arith, c.loop-q-test.false))
