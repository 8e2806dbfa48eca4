-- The place of a name among the switches' names; and switches by their types, as they stand in the table.
use Rattle.std.specs.declared.ops.Range.{Range}
use denote.Param.Members.{Mut}
use Rattle.std.specs.Bool.{MatchBool}
use Rattle.std.specs.Fn.{Called}
use Rattle.std.specs.Iterator.{YieldsThen}
use Rattle.std.specs.List.{AllWithin, FoldsTo, HoldsAt, range_with_len}
use Rattle.std.specs.Option.{MatchOption}
use Rattle.std.proofs.iter.Yields.{nat_range_steps}
use Rattle.std.proofs.lemmas.Iterator.{YieldsList-from_range, cases_from_any}
use Rattle.std.proofs.lemmas.List.FromFn.{length-range_with_len, get_or-range_with_len}
use mathlib.Core.Path.{◌≡◌, refl, sym, ap, ◌∙◌, subst}
use mathlib.Core.Bool.{Bool, true, false, cond, ◌&&◌, ◌||◌, beq}
use mathlib.Core.List.{List, [], ◌∷◌}
use Prim.Native.Nat.{ℕ, zero, suc, ◌+◌, ◌*◌, ◌%◌, ◌≤◌, ◌<◌}
use native.Mathlib.Nat.{not-suc-le-zero, le_of_suc-le-suc}
use native.Mathlib.Omega.{arith}
use lib.Dec.{eqb}
use lib.ListN.{length, get_or}
use Rattle.std.specs.Prelude.{Option}
use borrow.Author.Tests.{eq-eqb, ne_eqb}
use Rattle.std.proofs.lemmas.Bool.{or_right}
use Rattle.drafts.specs.Marks.{word_by}
use Rattle.table.proofs.Keys.{Missed}
use Rattle.language.specs.Program.{Switch, Program, no_switch}
use Rattle.layout.proofs.CellLaws.{padded-at}
use Rattle.layout.specs.Cells.{cell}
use Rattle.layout.specs.Table.{switch_cells, switch_in, counts}
use Rattle.layout.specs.Places as layout
use Rattle.lists.specs.Lists.{bytes_equal}
use Rattle.lists.specs.RangeLaws.{TestsBy}
use Rattle.packed.specs.Packed.{table_of}
use Rattle.writing.proofs.Growing.{code_part, labels_part, texts_part, switches_part, entries_part, numbers_part, parts, in_parts, sizes, switches-long}
use Rattle.writing.proofs.Held.{switch_count}
use Rattle.writing.proofs.Parts.{switches-at}
use Rattle.writing.specs.Writing.{HoldsProgram}
use Rattle.linking.specs.Lookup.{is_switch, Judges}

-- ---- what `(0..n).any(..)` answers

module _ {F : Type 0} (g : Mut F (ℕ × Unit {0}) Bool) (closure : F) where
  abbrev pub AnyRan : ℕ → Range ℕ → Bool → Type 0
  AnyRan n u r =
      (xs : List ℕ) × (o : Option ℕ) × (j : F) × YieldsThen nat_range_steps (record { start = 0; end = n }) xs o u × FoldsTo (λ p x q. Called g p (x, tt) false q) closure xs j
      × MatchOption o (r ≡ false) (λ x. (r ≡ true) × ((h : F) × Called g j (x, tt) true h))

-- one of the numbers below n is hit, or none
abbrev pub AnyHit : (ℕ → Bool) → ℕ → Bool → Type 0
AnyHit hit n r = MatchBool r ((k : ℕ) × (k < n) × (hit k ≡ true)) (Missed hit n)

pub any_below : {F : Type 0} {g : Mut F (ℕ × Unit {0}) Bool} (hit : ℕ → Bool) (n : ℕ) (closure : F) (u : Range ℕ) (r : Bool) → AnyRan g closure n u r → TestsBy g closure hit → AnyHit hit n r
any_below hit n closure u r ran tests =
    by r (cases_from_any u closure r (λ k. hit k ≡ true) (λ k. hit k ≡ false) ran (YieldsList-from_range 0 n n refl (omega arith)) (λ x q e. sym (tests x true q e).1) (λ x q e. ((tests x false q e).0, sym (tests x false q e).1)))
  where
    all : List ℕ
    all = range_with_len 0 n

    there : (k : ℕ) → k < n → get_or all k 0 ≡ k
    there k l = omega (arith, get_or-range_with_len 0 n k 0 l)

    by : (b : Bool) → MatchBool b ((k : ℕ) × (k < length all) × HoldsAt (λ y. hit y ≡ true) all k) (AllWithin (λ y. hit y ≡ false) all 0 (length all)) → AnyHit hit n b
    by true h = let l : h.0 < n = omega (arith, h.1, length-range_with_len 0 n) in (h.0, l, subst (λ y. hit y ≡ true) (there h.0 l) (h.2 0))
    by false h = λ k l. subst (λ y. hit y ≡ false) (there k l) (h k 0 (omega arith) (omega (arith, l, length-range_with_len 0 n)))

-- ---- a switch by its name and its type

kind-bit : (b : Bool) (n from : ℕ) → eqb ((cond b 1 0 + 2 * n + 512 * from) % 2) 1 ≡ b
kind-bit true n from = eq-eqb ((1 + 2 * n + 512 * from) % 2) 1 (omega arith)
kind-bit false n from = ne_eqb ((0 + 2 * n + 512 * from) % 2) 1 (λ e. omega (arith, e))

kind_at : (from : ℕ) (ws : List Switch) (k : ℕ) → k < length ws → eqb (cell (switch_cells from ws) k % 2) 1 ≡ (get_or ws k no_switch).goes_by_name
unfolding switch_cells
kind_at from [] k h = absurd (not-suc-le-zero h)
kind_at from (w ∷ ws) zero h = kind-bit w.goes_by_name (length w.entries) from
kind_at from (w ∷ ws) (suc k) h = kind_at (from + length w.entries) ws k (le_of_suc-le-suc h)

kind-read : (c : List ℕ) (p : Program) → HoldsProgram c p → (k : ℕ) → k < length p.switches → (switch_in (table_of c) k).goes_by_name ≡ (get_or p.switches k no_switch).goes_by_name
kind-read c p h k b =
    let e = switches-at (counts p) (code_part p) (labels_part p) (texts_part p) (switches_part p) (entries_part p) (numbers_part p) (sizes p h.tabular) in
    let x : cell (table_of c) (layout.first_switch + k) ≡ cell (switch_cells 0 p.switches) k =
    ap (λ (y : List ℕ). cell y (layout.first_switch + k)) (h.is ∙ in_parts p)
    ∙ padded-at (parts p) (switch_cells 0 p.switches) _ layout.first_switch 32 e k (omega (arith, switches-long 0 p.switches)) in
    ap (λ (y : ℕ). eqb (y % 2) 1) x ∙ kind_at 0 p.switches k b

module _ (s : List ℕ) (named : Bool) (m : ℕ) where
  abbrev hits : List ℕ → List Switch → ℕ → Bool
  hits sw ws j = bytes_equal (word_by s m) (word_by s (get_or sw j 0)) && beq named (get_or ws j no_switch).goes_by_name

  switch_at : (sw : List ℕ) (ws : List Switch) (k : ℕ) → length ws ≤ length sw → k < length ws → hits sw ws k ≡ true → is_switch s named m sw ws ≡ true
  switch_at sw [] k l h e = absurd (not-suc-le-zero h)
  switch_at [] (w ∷ ws) k l h e = absurd (not-suc-le-zero l)
  switch_at (x ∷ sw) (w ∷ ws) zero l h e = ap (λ (b : Bool). b || is_switch s named m sw ws) e
  switch_at (x ∷ sw) (w ∷ ws) (suc k) l h e = or_right (hits (x ∷ sw) (w ∷ ws) 0) _ (switch_at sw ws k (le_of_suc-le-suc l) (le_of_suc-le-suc h) e)

  switch-past : (sw : List ℕ) (ws : List Switch) → Missed (hits sw ws) (length ws) → is_switch s named m sw ws ≡ false
  switch-past [] ws u = refl
  switch-past (x ∷ sw) [] u = refl
  switch-past (x ∷ sw) (w ∷ ws) u = (λ j. u 0 (omega arith) j || is_switch s named m sw ws) ∙ switch-past sw ws (λ j h. u (suc j) (omega arith))

module _ (s c sw : List ℕ) (named : Bool) (m : ℕ) where
  abbrev pub switch_hit : ℕ → Bool
  switch_hit j = bytes_equal (word_by s m) (word_by s (get_or sw j 0)) && beq named (switch_in (table_of c) j).goes_by_name

  tests : (p : Program) → HoldsProgram c p → (j : ℕ) → j < length p.switches → switch_hit j ≡ hits s named m sw p.switches j
  tests p h j l = ap (λ (b : Bool). bytes_equal (word_by s m) (word_by s (get_or sw j 0)) && beq named b) (kind-read c p h j l)

  switch-found : (n k : ℕ) → n ≡ cell (table_of c) 2 → length sw ≡ 32 → k < n → switch_hit k ≡ true → Judges c (λ p. is_switch s named m sw p.switches) true
  switch-found n k is room l e =
      record {
        is = λ p h. let b : k < length p.switches = omega (arith, is, switch_count c p h) in
            sym (switch_at s named m sw p.switches k (omega (arith, room, h.tabular.switches_most)) b (sym (tests p h k b) ∙ e));
      }

  switch-none : (n : ℕ) → n ≡ cell (table_of c) 2 → Missed switch_hit n → Judges c (λ p. is_switch s named m sw p.switches) false
  switch-none n is u =
      record {
        is = λ p h. let e : n ≡ length p.switches = is ∙ switch_count c p h in
            sym (switch-past s named m sw p.switches (λ j l. sym (tests p h j l) ∙ u j (omega (arith, e))));
      }

  pub switch-asked : {n : ℕ} (r : Bool) → n ≡ cell (table_of c) 2 → length sw ≡ 32 → AnyHit switch_hit n r → Judges c (λ p. is_switch s named m sw p.switches) r
  switch-asked true is room h = switch-found _ h.0 is room h.1 h.2
  switch-asked false is room h = switch-none _ is h
