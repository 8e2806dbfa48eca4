-- The entries of a stack: just after a call, one after the other.
use mathlib.Core.Path.{◌≡◌, refl, sym, ap, ◌∙◌}
use mathlib.Core.Bool.{Bool, true, false, ◌&&◌}
use mathlib.Core.List.{List, [], ◌∷◌}
use Prim.Native.Nat.{ℕ, zero, suc, pred, ◌+◌, ◌*◌, ◌-◌, ◌/◌, ◌%◌, ◌≤◌, ◌<◌}
use native.Mathlib.Omega.{arith}
use lib.Dec.{T, ltb}
use lib.ListN.{length, get_or, get_or-eq_default}
use borrow.Author.Tests.{lt-ltb}
use native.Mathlib.Numerals.{sub-one}
use Rattle.cells.specs.Cells.{Number}
use Rattle.forms.specs.Forms.{calls}
use Rattle.forms.specs.ReadingLaws.{calls-listed}
use Rattle.language.specs.Instructions.{operation, is_call}
use Rattle.language.specs.Program.{Instr, Program, no_instr, instr_at}
use Rattle.layout.specs.Places as layout
use Rattle.layout.specs.Cells.{cell, two_at}
use Rattle.layout.specs.Memory.{twos_in}
use Rattle.layout.specs.Table.{program_of, good_table}
use Rattle.layout.proofs.TableLaws.{table-facts}
use Rattle.machine.specs.WellFormed.{good_return}
use Rattle.machine.proofs.WellFormedLaws.{open-program}
use Rattle.packed.specs.Packed.{table_of}
use Rattle.table.specs.GoodLaws.{good-instruction}
use Rattle.table.specs.ReadLaws.{code_count}

module _ (c : List ℕ) (good : T (good_table c)) where
  abbrev p : Program
  p = program_of c

  -- how many instructions there are
  pub code_is : {k : ℕ} → Number (cell (table_of c) 0) 4294967296 k → k ≡ length p.code
  code_is q = q.is ∙ sym (code_count c)

  pub return-none : (n : ℕ) → n ≡ 0 → false ≡ good_return p n
  unfolding good_return
  return-none n e = sym (ap (λ k. ltb 0 k && is_call (operation (instr_at p (pred k)).op).flow) e)

  module _ (n : ℕ) {i : ℕ} (some : 1 ≤ n) (before : i ≡ n - 1) {k : ℕ} (q : Number (cell (table_of c) 0) 4294967296 k) where
    is-return : good_return p n ≡ is_call (operation (instr_at p i).op).flow
    unfolding good_return
    is-return =
        let t : ltb 0 n ≡ true = lt-ltb 0 n (omega arith) in
        ap (λ b. b && is_call (operation (instr_at p (pred n)).op).flow) t ∙ ap (λ o. is_call (operation (instr_at p o).op).flow) (sym (sub-one n) ∙ sym before)

    pub return-beyond : k ≤ i → false ≡ good_return p n
    return-beyond h =
        let e : instr_at p i ≡ no_instr = get_or-eq_default p.code no_instr {n = i} (omega (arith, code_is q)) in
        sym (is-return ∙ ap (λ (x : Instr). is_call (operation x.op).flow) e)

    pub place : i < k → i < 512
    place h = omega (arith, code_is q, (open-program p (table-facts c good).good).code_short)

    pub return-is : i < k → {o : ℕ} → Number (cell (table_of c) (layout.first_instruction + 4 * i) % 64) 64 o → {r : Bool} → r ≡ calls o → r ≡ good_return p n
    return-is h {o} w {r} x =
        let g = good-instruction c good i (omega (arith, code_is q)) o w.is in
        x ∙ ap calls (sym g.number) ∙ calls-listed (instr_at p i).op ∙ sym is-return

-- ---- two cells an entry

pub length-twos : (s : List ℕ) → length (twos_in s) ≡ length s / 2
unfolding twos_in
length-twos [] = refl
length-twos (x ∷ []) = refl
length-twos (x ∷ y ∷ l) = omega (arith, length-twos l)

pub entry_at : (s : List ℕ) (i : ℕ) → i < length s / 2 → get_or (twos_in s) i 0 ≡ two_at (2 * i) s
unfolding twos_in
entry_at [] i h = absurd (omega (arith, h))
entry_at (x ∷ []) i h = absurd (omega (arith, h))
entry_at (x ∷ y ∷ l) zero h = refl
entry_at (x ∷ y ∷ l) (suc i) h =
    let e : 2 * suc i ≡ suc (suc (2 * i)) = omega arith in
    let o : 1 + suc (suc (2 * i)) ≡ suc (suc (1 + 2 * i)) = omega arith in
    entry_at l i (omega (arith, h)) ∙ rw (e, o) refl
