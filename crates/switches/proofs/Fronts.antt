-- The component in front of an expression, in its bytes; and the entry of a switch that it names.
use mathlib.Core.Path.{◌≡◌, refl, sym, ap, ◌∙◌, subst}
use mathlib.Core.Bool.{Bool, true, false, cond, ◌&&◌}
use mathlib.Core.List.{List, [], ◌∷◌}
use Prim.Native.Nat.{ℕ, zero, suc, pred, ◌+◌, ◌-◌, ◌≤◌, ◌<◌}
use native.Mathlib.Omega.{arith}
use lib.Dec.{T, leb, ltb}
use lib.IntN.{ℤ, pos, negsuc, nat_abs}
use lib.ListN.{length, take, drop}
use lib.Signed.{lt_z}
use borrow.Author.Tests.{le-leb, lt-leb, lt-ltb, ltb-true, ltb-false}
use Rattle.std.specs.Bool.{then_some}
use Rattle.std.specs.Prelude.{Option, Some, None, position}
use Rattle.lists.specs.Lists.{filled}
use Rattle.lists.specs.SearchLaws.{ahead-is}
use Rattle.language.specs.Limits as limit
use Rattle.language.specs.Letters.Letter.{E}
use Rattle.language.specs.Program.{Entry, target_of, meets}
use Rattle.language.specs.Values.{Component, Store, State, chars, value}
use Rattle.machine.specs.Arguments.{expr, first, needs}
use Rattle.machine.specs.Changes.{past, used, used_by}
use Rattle.cells.specs.Cells.{Number}
use Rattle.layout.specs.Cells.{cell, code}
use Rattle.layout.proofs.ComponentLaws.{components-none, next-component}
use Rattle.layout.specs.Components.{component_size, component_in, components_bytes, components_in}
use Rattle.layout.specs.Table.{label_in, entry_in, program_of}
use Rattle.packed.specs.Packed.{table_of}
use Rattle.components.specs.Parts.{Leading, AmountOfFirst}
use Rattle.components.specs.declared.Amount.{Amount}
use Rattle.components.proofs.Walks.{first_is}
use Rattle.state.specs.Working.{HoldsState, on_store, nth, reading}
use Rattle.state.specs.Blocks.{ExprLent, PartsDroppable}
use Rattle.table.specs.Good.{GoodSwitch}
use Rattle.table.specs.GoodLaws.{switch-length, switch-entries, switch-entry, entry-target, entry-label}
use Rattle.table.specs.Reads.{switch_first, switch_size, entries_from}
use Rattle.instructions.specs.Does.{stop_of}
use Rattle.instructions.specs.Fronts.{front_part}
use Rattle.instructions.proofs.Answers.{unstopped}
use Rattle.switches.specs.Switches.{entries_at, met_entry, numbered_entry, Entered, Goal}

-- ---- what is asked of the component in front

and-true : (a : Bool) → (a && true) ≡ true → a ≡ true
and-true true q = refl
and-true false q = q

pub some-front : (s : Store) (i k : ℕ) → 0 ≡ stop_of (needs k (front_part s i)) → filled (front_part s i) ≡ true
some-front s i k q = and-true (filled (front_part s i)) (unstopped (needs k (front_part s i)) (sym q)).0

-- ---- the bytes of an expression

module _ {σ : State} {i : ℕ} {x : List ℕ} (l : ExprLent σ i x) where
  abbrev s : Store
  s = σ.store

  parts_are : (length x ≡ 0 → ⊥) → expr s (nth E i) ≡ component_in x ∷ components_in (drop (component_size (cell x 0)) x)
  parts_are z = sym l.is ∙ (next-component l.whole (omega (arith, z))).is

  front-none : length x ≡ 0 → front_part s i ≡ []
  front-none z = ap (λ (xs : List Component). take 1 xs) (sym l.is ∙ components-none x z)

  front-one : (length x ≡ 0 → ⊥) → front_part s i ≡ component_in x ∷ []
  front-one z = ap (λ (xs : List Component). take 1 xs) (parts_are z)

  pub leading : (length x ≡ 0 → ⊥) → Leading x
  leading z = record { fits = (next-component l.whole (omega (arith, z))).fits }

  -- where there is a component
  module _ (f : filled (front_part s i) ≡ true) where
    pub some-there : length x ≡ 0 → ⊥
    some-there z = subst T (sym (sym (ap filled (front-none z)) ∙ f)) tt

    pub first-there : first (front_part s i) ≡ component_in x
    first-there = ap first (front-one some-there)

    pub droppable : {a : Amount} → AmountOfFirst x a → i < limit.expressions → PartsDroppable σ i a.parts a.bytes a.chars
    droppable {a} b j =
        record {
          index = j;
          first = record {
            most = rw (b.parts_are, parts_are some-there) (omega arith);
            bytes_is = rw b.parts_are (subst (λ (xs : List Component). a.bytes ≡ length (components_bytes (take 1 xs))) l.is (b.bytes_are.is ∙ first_is l.whole));
            chars_is = rw (b.parts_are, front-one some-there, b.chars_are) (omega arith);
          };
        }

-- ---- using it is reading past one component

pub used-front : {σ' : State} (b : Bool) (i : ℕ) (t : State) → HoldsState σ' (on_store (past (nth (reading b) i) 1) t)
    → HoldsState σ' (on_store (used (nth (reading b) i)) t)
unfolding on_store used used_by past
used-front true i t h = h
used-front false i t h = h

-- ---- the entry by a word

module _ {c : List ℕ} {k : ℕ} (g : GoodSwitch c k) where
  abbrev t : List ℕ
  t = table_of c

  module _ {f m : ℕ} (a : Number (switch_first t k) 8388608 f) (b : Number (switch_size t k) 256 m) where
    pub found : (u : Store) (i : ℕ) {w : List ℕ} {o : Option ℕ} → w ≡ chars (first (front_part u i)) → o ≡ position (λ x. meets (program_of c) x w) (entries_from t f m)
        → o ≡ met_entry c k u i
    found u i q h =
        let v = chars (first (front_part u i)) in
        h ∙ ap (λ (y : List ℕ). position (λ x. meets (program_of c) x y) (entries_from t f m)) q
        ∙ ap (λ (y : ℕ). position (λ x. meets (program_of c) x v) (entries_from t y m)) a.is
        ∙ ap (λ (y : ℕ). position (λ x. meets (program_of c) x v) (entries_from t (switch_first t k) y)) b.is
        ∙ ap (λ (es : List Entry). position (λ x. meets (program_of c) x v) es) (sym (switch-entries c k g))
        ∙ rw (ahead-is (λ x. meets (program_of c) x v) (entries_at c k)) refl

  pub many : length (entries_at c k) ≡ switch_size t k
  many = switch-length c k g

-- ---- the entry by a number

-- of m entries, the number z with the code v has none, or that one
below-none : (z : ℤ) (m v : ℕ) → v ≡ code z → v < 8388608 → (lt_z (pos 0) z && leb (nat_abs z) m) ≡ false
unfolding code
below-none (pos zero) m v q b = refl
below-none (pos (suc n)) m v q b = absurd (omega (arith, q))
below-none (negsuc n) m v q b = refl

above-is : (z : ℤ) (m v : ℕ) → v ≡ code z → 8388608 ≤ v → ((lt_z (pos 0) z && leb (nat_abs z) m) ≡ leb (suc (v - 8388608)) m) × (pred (nat_abs z) ≡ v - 8388608)
unfolding code
above-is (pos zero) m v q b = absurd (omega (arith, q))
above-is (pos (suc n)) m v q b =
    let r : v - 8388608 ≡ n = omega (arith, q) in
    (rw (lt-ltb 0 (suc n) (omega arith)) (ap (λ (y : ℕ). leb (suc y) m) (sym r)), sym r)
above-is (negsuc n) m v q b = absurd (omega (arith, q))

module _ {c : List ℕ} {k : ℕ} (g : GoodSwitch c k) {σ : State} {i : ℕ} {x : List ℕ} (l : ExprLent σ i x) (f : filled (front_part σ.store i) ≡ true) {v : ℕ}
    (q : Number (code (value (component_in x))) 16777216 v) where
  abbrev z : ℤ
  z = value (first (front_part σ.store i))

  abbrev n : ℕ
  n = length (entries_at c k)

  code-there : v ≡ code z
  code-there = q.is ∙ ap (λ (y : Component). code (value y)) (sym (first-there l f))

  pub number-none : v < 8388608 → None ≡ numbered_entry c k σ.store i
  number-none h = rw (below-none z n v code-there h) refl

  -- entry j, if there are so many
  pub number-some : {m : ℕ} → Number (switch_size (table_of c) k) 256 m → 8388608 ≤ v → {j : ℕ} → j ≡ v - 8388608
      → then_some (ltb j m) j ≡ numbered_entry c k σ.store i
  number-some {m} a h {j} p =
      let e = above-is z n v code-there h in
      rw (e.0, e.1, ← p) (go (ltb j m) refl)
    where
      go : (t : Bool) → ltb j m ≡ t → then_some (ltb j m) j ≡ cond (leb (suc j) n) (Some j) None
      go true q = rw (q, le-leb (suc j) n (omega (arith, a.is, many g, ltb-true j m q))) refl
      go false q = rw (q, lt-leb (suc j) n (omega (arith, a.is, many g, ltb-false j m q))) refl

-- ---- where an entry leads

module _ {c : List ℕ} {k j : ℕ} (w : Entered c k j) {f : ℕ} (a : Number (switch_first (table_of c) k) 8388608 f) where
  abbrev g : GoodSwitch c k
  g = w.switch

  module _ {y : ℕ} (b : Number (entry_in (table_of c) (f + j)).label 128 y) where
    pub leads-to : {r : ℕ} → Number (label_in (table_of c) y).target 67108864 r → Goal c k j r
    leads-to {r} d =
        let e = switch_first (table_of c) k + j in
        let h = g.entries.keyed j w.below in
        let q : r ≡ (label_in (table_of c) (entry_in (table_of c) e).label).target = rw (sym a.is, sym b.is) d.is in
        record {
          is = q ∙ sym (entry-target c e h) ∙ ap (target_of (program_of c)) (sym (switch-entry c k g j w.below));
          most = rw q (entry-label c w.good e h).most;
        }
