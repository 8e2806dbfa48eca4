-- Places at fault, one row after the other: from instruction to instruction, and from entry to entry.
use mathlib.Core.Path.{◌≡◌, refl, sym, ap, ◌∙◌}
use mathlib.Core.Bool.{Bool, true, false, cond, not}
use mathlib.Core.List.{List, [], ◌∷◌, ◌++◌, map}
use Prim.Native.Nat.{ℕ, ◌+◌, ◌≤◌, ◌<◌}
use native.Mathlib.Omega.{arith}
use Rattle.drafts.specs.Marks.{place_by}
use Rattle.statements.specs.Faults.{lower}
use Rattle.language.specs.Limits as limit
use Rattle.language.specs.Program.{Program, no_instr, instr_at}
use Rattle.lists.specs.Lists.{keep, each}
use Rattle.statements.specs.Faults.{Fault}
use Rattle.std.specs.Bool.{then_some}
use Rattle.std.specs.Prelude.{None, Some}
use Rattle.syntax.proofs.LoadLaws.{lowest-append}
use Rattle.syntax.specs.Verdict.{lowest}
use Rattle.linking.specs.Lookup.{joined, known, faults, instr_uses, Asking, AskingAt, Judges}
use native.Mathlib.Numerals.{add-one}
use lib.ListN.{length, get_or, take, drop, drop_of_length-le}
use lib.Seq.{drop-cons, get_or-take, length-take-le}
use Rattle.drafts.specs.Drafting.{draft_program}
use Rattle.layout.specs.Cells.{cell}
use Rattle.layout.specs.Table.{all_entries}
use Rattle.packed.specs.Packed.{table_of}
use Rattle.writing.proofs.Held.{code_count, entry_count}
use Rattle.writing.specs.Writing.{HoldsProgram}
use Rattle.linking.specs.Linking.{Kept}

pub joined-none : (f : Fault) → f ≡ joined f []
unfolding lowest
joined-none None = refl
joined-none (Some p) = refl

-- where something is not so
pub joined-unless : (f : Fault) (b : Bool) (p : ℕ) → lower f (then_some (not b) p) ≡ joined f (cond b [] (p ∷ []))
unfolding lowest
joined-unless None true p = refl
joined-unless None false p = refl
joined-unless (Some q) true p = refl
joined-unless (Some q) false p = refl

pub joined-join : (f : Fault) (xs ys : List ℕ) → joined (joined f xs) ys ≡ joined f (xs ++ ys)
unfolding lowest
joined-join None [] ys = refl
joined-join None (x ∷ xs) ys = ap Some (sym (lowest-append x xs ys))
joined-join (Some p) xs ys = ap Some (sym (lowest-append p xs ys))

-- no place at fault
pub joined-clear : (f : Fault) (xs : List ℕ) → joined f xs ≡ None → (f ≡ None) × (xs ≡ [])
joined-clear None [] e = (refl, refl)
joined-clear None (x ∷ xs) e = absurd (let z : ◌≡◌ {A = ℕ} 0 1 = cc in omega arith)
joined-clear (Some p) xs e = absurd (let z : ◌≡◌ {A = ℕ} 0 1 = cc in omega arith)

module _ (s sw : List ℕ) (kind : ℕ) (named : Bool) (p : Program) where
  keep_append : (q : ℕ → Bool) (xs ys : List ℕ) → map (λ m. place_by m) (keep q (xs ++ ys)) ≡ map (λ m. place_by m) (keep q xs) ++ map (λ m. place_by m) (keep q ys)
  keep_append q [] ys = refl
  keep_append q (x ∷ xs) ys = go (q x) (keep_append q xs ys)
    where
      go : (b : Bool) → map (λ m. place_by m) (keep q (xs ++ ys)) ≡ map (λ m. place_by m) (keep q xs) ++ map (λ m. place_by m) (keep q ys)
          → map (λ m. place_by m) (cond b (x ∷ keep q (xs ++ ys)) (keep q (xs ++ ys))) ≡ map (λ m. place_by m) (cond b (x ∷ keep q xs) (keep q xs)) ++ map (λ m. place_by m) (keep q ys)
      go true e = ap (λ (l : List ℕ). place_by x ∷ l) e
      go false e = e

  pub faults-append : (ms ns : List ℕ) → faults s sw kind named p (ms ++ ns) ≡ faults s sw kind named p ms ++ faults s sw kind named p ns
  faults-append ms ns = keep_append (λ m. not (known s sw kind named p m)) ms ns

  -- the faults of more marks, after those of some
  pub faults-join : (f : Fault) (ms ns : List ℕ)
      → joined (joined f (faults s sw kind named p ms)) (faults s sw kind named p ns) ≡ joined f (faults s sw kind named p (ms ++ ns))
  faults-join f ms ns = joined-join f (faults s sw kind named p ms) (faults s sw kind named p ns) ∙ ap (joined f) (sym (faults-append ms ns))

  pub fault-one : (m : ℕ) {b : Bool} → b ≡ known s sw kind named p m → cond b [] (place_by m ∷ []) ≡ faults s sw kind named p (m ∷ [])
  fault-one m {b} e = ap (λ (b : Bool). cond b [] (place_by m ∷ [])) e ∙ go (known s sw kind named p m)
    where
      go : (b : Bool) → cond b [] (place_by m ∷ []) ≡ map (λ m. place_by m) (cond (not b) (m ∷ []) [])
      go true = refl
      go false = refl

-- the tables of a text are some program with its marks
pub asking : {s c sw en : List ℕ} → Kept s c sw en → Asking c
asking k = record { program = draft_program k.lines k.tables; holds = k.tabled.holds }

pub code-asked : {c : List ℕ} (n k : ℕ) → Asking c → n ≡ cell (table_of c) 0 → k < n → AskingAt c k
code-asked {c} n k a is l = record { asking = a; there = omega (arith, is, code_count c a.program a.holds) }

-- g is at fault so far, and row has the marks that are left
pub record Going (s sw c : List ℕ) (kind : ℕ) (named : Bool) (whole left : Program → List ℕ) (f g : Fault) : Type 0 where
  pub is : (p : Program) → HoldsProgram c p → joined g (faults s sw kind named p (left p)) ≡ joined f (faults s sw kind named p (whole p))

module _ (s sw c : List ℕ) (kind : ℕ) (named : Bool) (f : Fault) (whole : Program → List ℕ) where
  -- the marks m are next
  pub going_on : {g g' : Fault} {left left' : Program → List ℕ} (m : Program → List ℕ) → Going s sw c kind named whole left f g
      → ((p : Program) → HoldsProgram c p → left p ≡ m p ++ left' p) → Judges c (λ p. joined g (faults s sw kind named p (m p))) g' → Going s sw c kind named whole left' f g'
  going_on {g} {g'} {left} {left'} m u e t =
      record {
        is = λ p h. ap (λ (x : Fault). joined x (faults s sw kind named p (left' p))) (t.is p h) ∙ faults-join s sw kind named p g (m p) (left' p)
            ∙ ap (λ (ms : List ℕ). joined g (faults s sw kind named p ms)) (sym (e p h)) ∙ u.is p h;
      }

  pub going-over : {g : Fault} {left : Program → List ℕ} → Going s sw c kind named whole left f g → ((p : Program) → HoldsProgram c p → left p ≡ [])
      → Judges c (λ p. joined f (faults s sw kind named p (whole p))) g
  going-over {g} u e =
      record { is = λ p h. joined-none g ∙ ap (λ (ms : List ℕ). joined g (faults s sw kind named p ms)) (sym (e p h)) ∙ u.is p h }

-- ---- instructions

module _ (s sw c : List ℕ) (kind : ℕ) (named : Bool) (f : Fault) where
  abbrev pub code_left : ℕ → Program → List ℕ
  code_left k p = each (instr_uses kind named p) (drop k p.code)

  abbrev pub CodeGoing : ℕ → Fault → Type 0
  CodeGoing k g = Going s sw c kind named (code_left 0) (code_left k) f g

  pub code-first : CodeGoing 0 f
  code-first = record { is = λ p h. refl }

  pub code-next : (n k : ℕ) {g g' : Fault} → n ≡ cell (table_of c) 0 → k < n → CodeGoing k g
      → Judges c (λ p. joined g (faults s sw kind named p (instr_uses kind named p (instr_at p k)))) g' → CodeGoing (k + 1) g'
  code-next n k is l u t =
      going_on s sw c kind named f (code_left 0) (λ p. instr_uses kind named p (instr_at p k)) u
      (λ p h. let e : drop k p.code ≡ instr_at p k ∷ drop (k + 1) p.code =
      drop-cons p.code k no_instr (omega (arith, is, code_count c p h)) ∙ ap (λ (j : ℕ). instr_at p k ∷ drop j p.code) (sym (add-one k)) in
      ap (each (instr_uses kind named p)) e) t

  pub code-over : (n k : ℕ) {g : Fault} → n ≡ cell (table_of c) 0 → n ≤ k → CodeGoing k g
      → Judges c (λ p. joined f (faults s sw kind named p (each (instr_uses kind named p) p.code))) g
  code-over n k is l u =
      going-over s sw c kind named f (code_left 0) u
      (λ p h. ap (each (instr_uses kind named p)) (drop_of_length-le p.code {i = k} (omega (arith, is, code_count c p h))))

-- ---- entries

-- no more than there may be
pub entries-most : {c : List ℕ} {p : Program} {n : ℕ} → n ≡ cell (table_of c) 3 → HoldsProgram c p → n ≤ limit.entries
entries-most {c} {p} is h = omega (arith, is, entry_count c p h, h.tabular.entries_most)

-- there is a mark for each
pub entries-fit : {c : List ℕ} {p : Program} (en : List ℕ) {n : ℕ} → n ≡ cell (table_of c) 3 → length en ≡ 128 → HoldsProgram c p → length (take n en) ≡ n
entries-fit {c} {p} en {n} is room h = length-take-le n en (omega (arith, is, entry_count c p h, room, h.tabular.entries_most))

module _ (s sw c en : List ℕ) (f : Fault) where
  abbrev pub entries_left : ℕ → Program → List ℕ
  entries_left k p = drop k (take (length (all_entries p)) en)

  abbrev pub EntriesGoing : ℕ → Fault → Type 0
  EntriesGoing k g = Going s sw c 2 true (entries_left 0) (entries_left k) f g

  pub entries-first : EntriesGoing 0 f
  entries-first = record { is = λ p h. refl }

  module _ (n k : ℕ) (is : n ≡ cell (table_of c) 3) (room : length en ≡ 128) where
    taken : (p : Program) → HoldsProgram c p → length (take (length (all_entries p)) en) ≡ n
    taken p h = length-take-le (length (all_entries p)) en (omega (arith, room, h.tabular.entries_most)) ∙ sym (is ∙ entry_count c p h)

    pub entries_next : (m : ℕ) {g g' : Fault} → k < n → m ≡ get_or en k 0 → EntriesGoing k g → Judges c (λ p. joined g (faults s sw 2 true p (m ∷ []))) g' → EntriesGoing (k + 1) g'
    entries_next m l e u t =
        going_on s sw c 2 true f (entries_left 0) (λ p. m ∷ []) u
        (λ p h. let x : k < length (all_entries p) = omega (arith, is, entry_count c p h) in
        drop-cons (take (length (all_entries p)) en) k 0 (omega (arith, taken p h)) ∙ rw (get_or-take (length (all_entries p)) en k 0 x, e, add-one k) refl) t

    pub entries_over : {g : Fault} → n ≤ k → EntriesGoing k g → Judges c (λ p. joined f (faults s sw 2 true p (take (length (all_entries p)) en))) g
    entries_over l u =
        going-over s sw c 2 true f (entries_left 0) u (λ p h. drop_of_length-le (take (length (all_entries p)) en) {i = k} (omega (arith, taken p h)))
