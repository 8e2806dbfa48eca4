-- Entries that are met by a word.
use Rattle.std.specs.declared.ops.Range.{Range}
use denote.Param.Members.{Mut}
use denote.Ref.{Bor}
use Rattle.std.specs.Fn.{CalledAt}
use Rattle.std.specs.Iterator.{YieldsThen}
use Rattle.std.specs.List.{FoldsTo}
use Rattle.std.specs.Option.{MatchOption}
use Rattle.std.proofs.iter.Yields.{nat_range_steps}
use Rattle.std.proofs.lemmas.Iterator.{first_from_Range}
use mathlib.Core.Path.{◌≡◌, refl, sym, ap, ◌∙◌}
use mathlib.Core.Bool.{Bool, true, false, ◌&&◌, ◌||◌}
use mathlib.Core.List.{List, [], ◌∷◌}
use Prim.Native.Nat.{ℕ, zero, suc, ◌+◌, ◌≤◌, ◌<◌}
use native.Mathlib.Nat.{not-suc-le-zero, le_of_suc-le-suc}
use native.Mathlib.Omega.{arith}
use lib.ListN.{length, get_or}
use lib.Ieee.Bits.{is_true}
use borrow.Author.Tests.{lt-ltb, le-ltb}
use Rattle.std.specs.List.{position_or_len}
use Rattle.std.specs.Prelude.{⊤, Option, Some, None, cond, position}
use Rattle.lists.specs.LoopLaws.{ahead-zero, ahead-suc}
use Rattle.lists.specs.SearchLaws.{ahead-is}
use Rattle.packed.specs.Below.Lists.{ahead, filled, bytes_equal}
use Rattle.packed.specs.Below.Program.{Label, Entry, no_entry, label_at, meets}
use Rattle.packed.proofs.Below.LayoutCellLaws.{length-tab, get_d-tab}
use Rattle.packed.specs.Below.Table.{label_in, entry_in, program_of}
use Rattle.packed.specs.Packed.{table_of}
use Rattle.table.specs.Denote.{ref_by, text_of}
use Rattle.table.specs.Reads.{entry_ref, Keyed, entries_from}
use Rattle.table.specs.ReadLaws.{text-referred, label_is}
use Rattle.table.specs.declared.TextRef.{TextRef}
use Rattle.table.specs.declared.TextRef.TheVariants.{Empty}

-- an entry compared with a word: l is its label, s its text, and named is whether its label's name is the word
module _ (c w : List ℕ) (e : ℕ) (keyed : Keyed c e) {l : ℕ} {s : TextRef} {named : Bool} (label-is : l ≡ (entry_in (table_of c) e).label) (text-is : s ≡ ref_by (entry_ref (table_of c) e))
    (named-is : named ≡ bytes_equal (label_in (table_of c) l).name w) where
  abbrev x : Entry
  x = entry_in (table_of c) e

  abbrev label_met : Bool
  label_met = bytes_equal (label_at (program_of c) x.label).name w

  text_same : text_of (table_of c) s ≡ x.text
  text_same = ap (text_of (table_of c)) text-is ∙ text-referred (table_of c) (entry_ref (table_of c) e)

  by_name : named ≡ label_met
  by_name = named-is ∙ ap (λ (k : ℕ). bytes_equal (label_in (table_of c) k).name w) label-is ∙ ap (λ (k : Label). bytes_equal k.name w) (sym (label_is c x.label keyed.label))

  pub met-by-name : s ≡ Empty → named ≡ meets (program_of c) x w
  unfolding meets
  met-by-name z = by_name ∙ ap (λ (y : List ℕ). (filled y && bytes_equal y w) || label_met) (sym (ap (text_of (table_of c)) z) ∙ text_same)

  pub met-by-either : {spelled : Bool} → (s ≡ Empty → ⊥) → spelled ≡ bytes_equal (text_of (table_of c) s) w → spelled || named ≡ meets (program_of c) x w
  unfolding meets
  met-by-either z q =
      ap (λ (b : Bool). b || named) (q ∙ ap (λ (y : List ℕ). bytes_equal y w) text_same) ∙ ap (λ (b : Bool). bytes_equal x.text w || b) by_name
      ∙ ap (λ (b : Bool). (b && bytes_equal x.text w) || label_met) (sym (is_true (filled x.text) (keyed.some (λ y. z (text-is ∙ ap ref_by y)))))

-- the place of the first that passes, by how many stand before it
module _ {X : Type 0} (q : X → Bool) where
  pub place-some : (xs : List X) (k : ℕ) → k < length xs → k ≡ ahead q xs → Some k ≡ position q xs
  place-some xs k h e = ap (λ (n : ℕ). Some n) z ∙ sym (ap (λ (b : Bool). cond b (Some (position_or_len q xs)) None) (lt-ltb (position_or_len q xs) (length xs) (omega (arith, z, h))))
    where
      z : k ≡ position_or_len q xs
      z = e ∙ ahead-is q xs

  pub place-none : (xs : List X) → length xs ≡ ahead q xs → None ≡ position q xs
  place-none xs e = sym (ap (λ (b : Bool). cond b (Some (position_or_len q xs)) None) (le-ltb (position_or_len q xs) (length xs) (omega (arith, e, ahead-is q xs))))

-- none of the first k passes
abbrev pub Missed : (ℕ → Bool) → ℕ → Type 0
Missed hit k = (j : ℕ) → j < k → hit j ≡ false

module _ {X : Type 0} (q : X → Bool) (d : X) where
  ahead-at : (xs : List X) (k : ℕ) → k < length xs → Missed (λ j. q (get_or xs j d)) k → q (get_or xs k d) ≡ true → k ≡ ahead q xs
  ahead-at [] k h m e = absurd (not-suc-le-zero h)
  ahead-at (x ∷ xs) zero h m e = sym (ahead-zero q x xs e)
  ahead-at (x ∷ xs) (suc k) h m e =
      ap suc (ahead-at xs k (le_of_suc-le-suc h) (λ j l. m (suc j) (omega arith)) e) ∙ sym (ahead-suc q x xs (m 0 (omega arith)))

  ahead_past : (xs : List X) → Missed (λ j. q (get_or xs j d)) (length xs) → length xs ≡ ahead q xs
  ahead_past [] m = refl
  ahead_past (x ∷ xs) m = ap suc (ahead_past xs (λ j l. m (suc j) (omega arith))) ∙ sym (ahead-suc q x xs (m 0 (omega arith)))

  -- hit j is the test of element j
  module _ (xs : List X) (hit : ℕ → Bool) (tests : (j : ℕ) → j < length xs → hit j ≡ q (get_or xs j d)) where
    pub found_at : (k : ℕ) → k < length xs → Missed hit k → hit k ≡ true → Some k ≡ position q xs
    found_at k h m e = place-some q xs k h (ahead-at xs k h (λ j l. sym (tests j (omega arith)) ∙ m j l) (sym (tests k h) ∙ e))

    pub found_none : (n : ℕ) → n ≡ length xs → Missed hit n → None ≡ position q xs
    found_none n e m = place-none q xs (ahead_past xs (λ j l. sym (tests j l) ∙ m j (omega (arith, e))))

-- what `(0..n).find(..)` answers, of a closure that answers at k what is hit
module _ {F : Type 0} (g : Mut F (Bor ℕ × Unit {0}) Bool) (closure : F) where
  abbrev pub FindRan : ℕ → Range ℕ → Option ℕ → Type 0
  FindRan n u r =
      (xs : List ℕ) × (j : F) × YieldsThen nat_range_steps (record { start = 0; end = n }) xs r u × FoldsTo (λ p x q. CalledAt g p x false q) closure xs j
      × MatchOption r ⊤ (λ x. (h : F) × CalledAt g j x true h)

  abbrev pub FindsBy : (ℕ → Bool) → Type 0
  FindsBy hit = (x : ℕ) (b : Bool) (q : F) → CalledAt g closure x b q → (q ≡ closure) × (b ≡ hit x)

-- r is the first of the numbers below n that is hit
abbrev pub FirstHit : (ℕ → Bool) → ℕ → Option ℕ → Type 0
FirstHit hit n r = MatchOption r (Missed hit n) (λ k. (k < n) × (hit k ≡ true) × Missed hit k)

pub first_hit : {F : Type 0} {g : Mut F (Bor ℕ × Unit {0}) Bool} (hit : ℕ → Bool) (n : ℕ) (closure : F) (u : Range ℕ) (r : Option ℕ) → FindRan g closure n u r → FindsBy g closure hit → FirstHit hit n r
first_hit hit n closure u r ran tests =
    go r (first_from_Range _ u closure r (λ k. hit k ≡ true) (λ k. hit k ≡ false) ran (λ x q e. sym (tests x true q e).1) (λ x q e. ((tests x false q e).0, sym (tests x false q e).1)))
  where
    go : (o : Option ℕ) → MatchOption o ((k : ℕ) → 0 ≤ k → k < n → hit k ≡ false) (λ i. (0 ≤ i) × (i < n) × (hit i ≡ true) × ((k : ℕ) → 0 ≤ k → k < i → hit k ≡ false)) → FirstHit hit n o
    go None h = λ k l. h k (omega arith) l
    go (Some i) h = (h.1, h.2, λ k l. h.3 k (omega arith) l)

module _ (c w : List ℕ) (e n : ℕ) where
  abbrev entries : List Entry
  entries = entries_from (table_of c) e n

  abbrev is_met : Entry → Bool
  is_met x = meets (program_of c) x w

  abbrev pub entry_hit : ℕ → Bool
  entry_hit k = is_met (entry_in (table_of c) (e + k))

  long_enough : length entries ≡ n
  long_enough = length-tab n (λ j. entry_in (table_of c) (e + j))

  entry-tests : (k : ℕ) → k < length entries → entry_hit k ≡ is_met (get_or entries k no_entry)
  entry-tests k l = ap is_met (sym (get_d-tab n (λ j. entry_in (table_of c) (e + j)) k no_entry (omega (arith, l, long_enough))))

  pub entry_found : (r : Option ℕ) → FirstHit entry_hit n r → r ≡ position is_met entries
  entry_found None h = found_none is_met no_entry entries entry_hit entry-tests n (sym long_enough) h
  entry_found (Some k) h = found_at is_met no_entry entries entry_hit entry-tests k (omega (arith, h.0, long_enough)) h.2 h.1
