-- The program of a lent table, part by part: what stands in its lists is what the readers read.
use Rattle.std.specs.Prelude.{◌≡◌, refl, Bool, true, false, not, ◌&&◌, ◌||◌, cond, List, [], ◌∷◌, ℕ, ◌-◌, ◌<◌, eqb, leb, ltb, length}
use Rattle.std.proofs.Common.{sym, arith}
use borrow.Author.Tests.{le-ltb, lt-ltb, leb-true, leb-false}
use Rattle.packed.specs.Below.Program.{no_instr, no_label, no_switch, instr_at, label_at, switch_at}
use Rattle.packed.proofs.Below.LayoutCellLaws.{length-tab, get_d-tab}
use Rattle.packed.specs.Below.LayoutCells.{cell}
use Rattle.packed.specs.Below.Table.{text_in, text_by, instr_in, label_in, switch_in, program_in, program_of}
use Rattle.packed.specs.Packed.{table_of}
use Rattle.table.specs.Denote.{is_small, ref_by, text_of}
use Rattle.table.specs.Reads.{Placed}
use Rattle.table.specs.declared.TextRef.TheVariants.{Empty, Byte, Place}

-- a number that is not small is beyond 15 in size, on either side
pub not_small : (v : ℕ) → not (is_small v) ≡ (ltb v 8388592 || ltb 8388622 v)
not_small v = go (leb 8388592 v) (leb v 8388622) refl refl
  where
    go : (a b : Bool) → leb 8388592 v ≡ a → leb v 8388622 ≡ b → not (a && b) ≡ (ltb v 8388592 || ltb 8388622 v)
    go true true e f = sym (rw (le-ltb v 8388592 (leb-true _ _ e), le-ltb 8388622 v (leb-true _ _ f)) refl)
    go true false e f = sym (rw (le-ltb v 8388592 (leb-true _ _ e), lt-ltb 8388622 v (leb-false _ _ f)) refl)
    go false b e f = sym (rw (lt-ltb v 8388592 (leb-false _ _ e)) refl)

-- the text that a number refers to, and where it stands
pub text-referred : (t : List ℕ) (v : ℕ) → text_of t (ref_by v) ≡ text_by t v
text-referred t v = go (eqb v 0) (ltb v 256)
  where
    go : (a b : Bool) → text_of t (cond a Empty (cond b (Byte v) (Place (v - 256)))) ≡ cond a [] (cond b (v ∷ []) (text_in t (v - 256)))
    go true b = refl
    go false true = refl
    go false false = refl

pub placed-by : (v : ℕ) → v < 384 → Placed (ref_by v)
placed-by v h = go (eqb v 0) (ltb v 256)
  where
    go : (a b : Bool) → Placed (cond a Empty (cond b (Byte v) (Place (v - 256))))
    go true b = tt
    go false true = tt
    go false false = omega (arith, h)

module _ (c : List ℕ) where
  pub code_count : length (program_of c).code ≡ cell (table_of c) 0
  unfolding program_of program_in
  code_count = length-tab (cell (table_of c) 0) (instr_in (table_of c))

  pub label_count : length (program_of c).labels ≡ cell (table_of c) 1
  unfolding program_of program_in
  label_count = length-tab (cell (table_of c) 1) (label_in (table_of c))

  pub switch_count : length (program_of c).switches ≡ cell (table_of c) 2
  unfolding program_of program_in
  switch_count = length-tab (cell (table_of c) 2) (switch_in (table_of c))

  pub instr-is : (i : ℕ) → i < cell (table_of c) 0 → instr_at (program_of c) i ≡ instr_in (table_of c) i
  unfolding program_of program_in
  instr-is i h = get_d-tab (cell (table_of c) 0) (instr_in (table_of c)) i no_instr h

  pub label_is : (k : ℕ) → k < cell (table_of c) 1 → label_at (program_of c) k ≡ label_in (table_of c) k
  unfolding program_of program_in
  label_is k h = get_d-tab (cell (table_of c) 1) (label_in (table_of c)) k no_label h

  pub switch-is : (k : ℕ) → k < cell (table_of c) 2 → switch_at (program_of c) k ≡ switch_in (table_of c) k
  unfolding program_of program_in
  switch-is k h = get_d-tab (cell (table_of c) 2) (switch_in (table_of c)) k no_switch h
