-- From single cells that were written to the program that is held: switches, entries, arguments and labels of entries.
use mathlib.Core.Path.{◌≡◌, refl, sym, ap, ◌∙◌}
use mathlib.Core.Bool.{Bool, cond}
use mathlib.Core.List.{List, [], ◌∷◌}
use Prim.Native.Nat.{ℕ, zero, suc, ◌+◌, ◌*◌, ◌-◌, ◌/◌, ◌%◌, ◌≤◌, ◌<◌}
use lib.Dec.{eqb}
use native.Mathlib.Numerals.{add-one}
use native.Mathlib.Omega.{arith}
use lib.ListN.{length, get_or, set, take, drop, length-set}
use lib.Seq.{take-set-lt, drop-set-lt, get_or-take}
use Rattle.blocks.proofs.Laws.{set-one}
use Rattle.blocks.specs.Below.Program.{Program}
use Rattle.blocks.specs.Below.LayoutCells.{cell}
use Rattle.blocks.specs.Below.Table.{entry_cell, all_entries, table_cells}
use Rattle.blocks.specs.Below.LayoutPlaces as layout
use Rattle.table.specs.Below.Packed.{table_of}
use Rattle.writing.specs.Writing.{Tabular, HoldsProgram, with_switch, with_entry, with_argument, with_entry_label, Changes, Writes, IsEntry, IsArg}
use Rattle.writing.proofs.Growing.{parts, in_parts}
use Rattle.writing.proofs.Held.{switch_count, code_count, entry_count, both-beyond, both_hold}
use Rattle.writing.proofs.Replacing.{argument-put, argument-tabular, label-put, relabelled-tabular}
use Rattle.writing.proofs.Switching.{switch-added, switch-tabular, entry-added, entry-tabular}

-- one cell of a table
module _ (c d : List ℕ) (at v : ℕ) (low : at < 8192) (wrote : d ≡ set c at v) where
  one-first : table_of d ≡ set (table_of c) at v
  one-first = ap (take 8192) wrote ∙ take-set-lt 8192 c at v low

  pub one-beyond : drop 8192 d ≡ drop 8192 c
  one-beyond = ap (drop 8192) wrote ∙ drop-set-lt 8192 c at v low

  one-long : length d ≡ length c
  one-long = ap length wrote ∙ length-set c at v

  pub one_holds : (p r : Program) → HoldsProgram c p → set (parts p) at v ≡ table_cells r → Tabular r → HoldsProgram d r
  one_holds p r h f t =
      record { long = omega (arith, one-long, h.long); is = one-first ∙ ap (λ (x : List ℕ). set x at v) (h.is ∙ in_parts p) ∙ f; tabular = t }

-- ---- a switch

pub switch-done : (c d e : List ℕ) (n m v : ℕ) (b : Bool) → 8192 ≤ length c → n ≡ cell (table_of c) 2 → n < 32 → m ≡ cell (table_of c) 3
    → v ≡ cond {A = ℕ} b 1 0 + 2 * 0 + 512 * m → d ≡ set c (layout.first_switch + n) v → e ≡ set d 2 (n + 1) → Changes (with_switch b) c e
switch-done c d₁ d₂ n m v b long is room has whole f g =
    let s : List ℕ = v ∷ [] in
    let e : v ≡ cond {A = ℕ} b 1 0 + 512 * m = omega (arith, whole) in
    let k = f ∙ set-one c (layout.first_switch + n) v (omega arith) in
    record {
      holds = λ p h. let x : n ≡ length p.switches = is ∙ switch_count c p h in
          let y : m ≡ length (all_entries p) = has ∙ entry_count c p h in
          both_hold c d₁ d₂ s (layout.first_switch + n) 2 (n + 1) long (omega arith) (omega arith) k g p (with_switch b p) h
          (rw (add-one n, x, e, y) (switch-added b p h.tabular (omega (arith, x)))) (switch-tabular b p h.tabular (omega (arith, x)));
      beyond = both-beyond c d₁ d₂ s (layout.first_switch + n) 2 (n + 1) long (omega arith) (omega arith) k g;
    }

-- ---- an entry: its cell, the last switch's cell, and the count

bit-back : (n : ℕ) → n < 2 → cond {A = ℕ} (eqb n 1) 1 0 ≡ n
bit-back zero h = refl
bit-back (suc zero) h = refl
bit-back (suc (suc n)) h = absurd (omega arith)

-- the cell of a switch with one entry more
pub one-more : (x n f : ℕ) (b : Bool) → b ≡ eqb (x % 2) 1 → n ≡ x / 2 % 256 → f ≡ x / 512 → cond {A = ℕ} b 1 0 + 2 * (n + 1) + 512 * f ≡ x + 2
one-more x n f b is count first =
    let low : cond {A = ℕ} b 1 0 ≡ x % 2 = ap (λ (t : Bool). cond {A = ℕ} t 1 0) is ∙ bit-back (x % 2) (omega arith) in
    omega (arith, low, count, first)

module _ (c d₁ d₂ d₃ : List ℕ) (n s x m v : ℕ) (long : 8192 ≤ length c) (is : n ≡ cell (table_of c) 3) (room : n < 128) (has : s ≡ cell (table_of c) 2) (some : 0 < s)
    (few : s ≤ 32) (low : m < 128) (old : x ≡ get_or c (6151 + s) 0) (f : d₁ ≡ set c (layout.first_entry + n) (m + 128 * v)) (g : d₂ ≡ set d₁ (6151 + s) (x + 2)) (k : d₃ ≡ set d₂ 3 (n + 1)) where
  three-first : table_of d₃ ≡ set (set (set (table_of c) (layout.first_entry + n) (m + 128 * v)) (6151 + s) (x + 2)) 3 (n + 1)
  three-first =
      one-first d₂ d₃ 3 (n + 1) (omega arith) k
      ∙ ap (λ (y : List ℕ). set y 3 (n + 1)) (one-first d₁ d₂ (6151 + s) (x + 2) (omega arith) g
      ∙ ap (λ (y : List ℕ). set y (6151 + s) (x + 2)) (one-first c d₁ (layout.first_entry + n) (m + 128 * v) (omega arith) f))

  three-long : length d₃ ≡ length c
  three-long = one-long d₂ d₃ 3 (n + 1) (omega arith) k ∙ one-long d₁ d₂ (6151 + s) (x + 2) (omega arith) g ∙ one-long c d₁ (layout.first_entry + n) (m + 128 * v) (omega arith) f

  pub entry_done : Writes (IsEntry m v) with_entry c d₃
  entry_done =
      record {
        holds = λ e p h a.
            let i : ℕ = s - 1 in
            let w : length p.switches ≡ suc i = omega (arith, has, switch_count c p h) in
            let y : n ≡ length (all_entries p) = is ∙ entry_count c p h in
            let at : 6151 + s ≡ layout.first_switch + i = omega arith in
            let o : x ≡ cell (parts p) (layout.first_switch + i) =
            old ∙ sym (get_or-take 8192 c (6151 + s) 0 (omega arith)) ∙ ap (λ (t : List ℕ). cell t (6151 + s)) (h.is ∙ in_parts p) ∙ ap (cell (parts p)) at in
            let q : m + 128 * v ≡ entry_cell p e = λ j. a.label_is j + 128 * a.ref_is j in
            record {
              long = omega (arith, three-long);
              is = three-first ∙ ap (λ (t : List ℕ). set (set (set t (layout.first_entry + n) (m + 128 * v)) (6151 + s) (x + 2)) 3 (n + 1)) (h.is ∙ in_parts p)
                  ∙ (λ j. set (set (set (parts p) (layout.first_entry + y j) (q j)) (at j) (o j + 2)) 3 ((add-one n ∙ ap suc y) j)) ∙ entry-added e p h.tabular (omega (arith, y)) i w;
              tabular = entry-tabular e p h.tabular (omega (arith, y)) i w (record { low = omega (arith, a.label_is); kept = a.kept });
            };
        beyond = one-beyond d₂ d₃ 3 (n + 1) (omega arith) k ∙ one-beyond d₁ d₂ (6151 + s) (x + 2) (omega arith) g ∙ one-beyond c d₁ (layout.first_entry + n) (m + 128 * v) (omega arith) f;
      }

-- ---- an argument, and the label of an entry

pub argument-done : (c d : List ℕ) (k j x at : ℕ) → at ≡ 8 + (4 * k + (1 + j)) → k < cell (table_of c) 0 → cell (table_of c) 0 ≤ 512 → j < 3 → d ≡ set c at x
    → Writes (IsArg x) (with_argument k j) c d
argument-done c d k j x at place there few b f =
    record {
      holds = λ a p h t. let w : k < length p.code = omega (arith, there, code_count c p h) in
          one_holds c d at x (omega arith) f p (with_argument k j a p) h (rw (place, t.is) (argument-put k j a p h.tabular w b)) (argument-tabular k j a p h.tabular w t.kept);
      beyond = one-beyond c d at x (omega arith) f;
    }

pub relabelled-done : (c d : List ℕ) (k m v : ℕ) → k < cell (table_of c) 3 → cell (table_of c) 3 ≤ 128 → m < 128 → v ≡ cell (table_of c) (layout.first_entry + k) / 128
    → d ≡ set c (layout.first_entry + k) (m + 128 * v) → Changes (with_entry_label k m) c d
relabelled-done c d k m v there few low is f =
    record {
      holds = λ p h. let w : k < length (all_entries p) = omega (arith, there, entry_count c p h) in
          let e : v ≡ cell (parts p) (layout.first_entry + k) / 128 = is ∙ ap (λ (t : List ℕ). cell t (layout.first_entry + k) / 128) (h.is ∙ in_parts p) in
          one_holds c d (layout.first_entry + k) (m + 128 * v) (omega arith) f p (with_entry_label k m p) h
          (ap (λ (i : ℕ). set (parts p) (layout.first_entry + k) (m + 128 * i)) e ∙ label-put k m p h.tabular w) (relabelled-tabular k m p h.tabular w low);
      beyond = one-beyond c d (layout.first_entry + k) (m + 128 * v) (omega arith) f;
    }

-- the last switch's cell, as it is read
pub last-read : (c : List ℕ) (s x : ℕ) → s ≡ cell (table_of c) 2 → cell (table_of c) 2 ≤ 32 → x ≡ get_or c (6151 + s) 0 → cell (table_of c) (6151 + cell (table_of c) 2) < 131072
    → x < 131072
last-read c s x is few read low =
    let e : x ≡ cell (table_of c) (6151 + cell (table_of c) 2) =
    read ∙ sym (get_or-take 8192 c (6151 + s) 0 (omega arith)) ∙ ap (λ (i : ℕ). cell (table_of c) (6151 + i)) is in
    omega (arith, e)
