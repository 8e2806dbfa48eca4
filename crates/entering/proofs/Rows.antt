-- The values of a row of items, and of a row of arguments, come to a table one by one: for texts and for numbers alike.
use mathlib.Core.Path.{◌≡◌, refl, sym, ◌∙◌}
use mathlib.Core.Bool.{Bool, true, false, cond, true≢false}
use mathlib.Core.List.{List, [], ◌∷◌, append-nil, map}
use Prim.Native.Nat.{ℕ, ◌+◌, ◌-◌, ◌≤◌, zero, suc}
use native.Mathlib.Numerals.{add-one}
use native.Mathlib.Omega.{arith}
use lib.Dec.{T}
use lib.ListN.{length, get_or, get_or-eq_default, drop, drop_of_length-le}
use lib.Seq.{drop-nil}
use Rattle.language.specs.Program.{Program}
use Rattle.statements.specs.Places.{all_from}
use Rattle.statements.specs.Faults.{Fault}
use Rattle.std.specs.Prelude.{None, Some}
use Rattle.syntax.specs.Items.{Item, a_mark}
use Rattle.syntax.specs.Tables.{fresh}
use Rattle.writing.specs.Writing.{HoldsProgram}
use Rattle.entering.specs.Entering.{added, all_added, Held, Enters, EntersOne, ShortItem, EnterableValue, EnterableValues}
use Rattle.entering.specs.EnteringLaws.{GoesOn, goes_on, excess-here}
use Rattle.arguments.specs.Valued.{no_value, nth, ItemValued, FirstValue, Ordered, Valued}
use Rattle.arguments.specs.declared.Value.{Value}
use Rattle.layout.proofs.CellLaws.{each_at}
use Rattle.syntax.specs.ArgumentForms.{Argument}
use Rattle.syntax.specs.Items.Sort.{wrong}

-- a table of a program and the program with another
pub record TableOf {X : Type 0} (table_of : Program → List X) (set-table : List X → Program → Program) : Type 0 where
  pub get : (t : List X) (p : Program) → table_of (set-table t p) ≡ t
  pub twice : (t u : List X) (p : Program) → set-table u (set-table t p) ≡ set-table u p
  pub same : (p : Program) → set-table (table_of p) p ≡ p
  pub most : (c : List ℕ) (p : Program) → HoldsProgram c p → length (table_of p) ≤ 128

module _ {X : Type 0} (equal : X → X → Bool) (value_of_lem : Item → X) (passes : Item → Bool) (table_of : Program → List X) (set-table : List X → Program → Program)
    (laws : TableOf table_of set-table) where
  abbrev pub One : Item → List ℕ → Bool → List ℕ → Type 0
  One i c r d = EntersOne equal value_of_lem passes table_of set-table i c r d

  abbrev pub All : List Item → List ℕ → Fault → List ℕ → Type 0
  All js c r d = Enters equal value_of_lem passes table_of set-table js c r d

  pub none-entered : {c : List ℕ} → All [] c None c
  unfolding fresh
  none-entered {c} =
      record {
        told = λ p g. rw (drop-nil {A = ℕ} (128 - length (table_of p)));
        holds = λ q p g. rw (append-nil (table_of p), laws.same p) g;
        still = λ p g. record { table = table_of p; holds = rw (laws.same p) g };
        beyond_same = refl;
      }

  pub all-on : (i : Item) (js : List Item) {c : List ℕ} {r : Bool} {d : List ℕ} → One i c r d → r ≡ true → {f : Fault} {e : List ℕ} → All js d f e → All (i ∷ js) c f e
  all-on i js {c} {r} {d} h q {f} {e} k =
      let then : Program → List X = λ p. cond (passes i) (added equal (value_of_lem i) (table_of p)) (table_of p) in
      let now : Program → Program = λ p. set-table (then p) p in
      let on : (p : Program) → HoldsProgram c p → GoesOn equal value_of_lem passes i js (table_of p) (then p) = λ p g. goes_on equal value_of_lem passes i js (table_of p) (sym (h.told p g) ∙ q) in
      record {
        told = λ p g. rw ((on p g).0, ← laws.get (then p) p) (k.told (now p) (h.holds q p g));
        holds = λ z p g. rw (on p g).1 (rw (laws.get (then p) p, laws.twice (then p) (all_added equal value_of_lem passes (then p) js) p) at (k.holds z (now p) (h.holds q p g)));
        still = λ p g.
            let y = k.still (now p) (h.holds q p g) in
            record { table = y.table; holds = rw (laws.twice (then p) y.table p) at y.holds };
        beyond_same = k.beyond_same ∙ h.beyond_same;
      }

  pub all-stop : (i : Item) (js : List Item) {c : List ℕ} {r : Bool} {d : List ℕ} → One i c r d → r ≡ false → T (all_from i.at js) → All (i ∷ js) c (Some i.at) d
  all-stop i js {c} {r} {d} h q w =
      record {
        told = λ p g. sym (excess-here equal value_of_lem passes i js (table_of p) (sym (h.told p g) ∙ q) w);
        holds = λ e. absurd (let y : ◌≡◌ {A = ℕ} 0 1 = cc in omega arith);
        still = λ p g. record { table = table_of p; holds = rw (h.same q, laws.same p) g };
        beyond_same = h.beyond_same;
      }

  pub still-held : (i : Item) {c : List ℕ} {d : List ℕ} {r : Bool} → One i c r d → r ≡ true → Held c → Held d
  still-held i h q u = record { program = _; holds = h.holds q u.program u.holds }

-- where there is no argument, an item that is neither text nor number
abbrev pub no_item : Item
no_item = a_mark wrong 0

abbrev pub items_of : List Argument → List Item
items_of args = map (λ a. a.item) args

-- the item of argument k
abbrev pub item_at : List Argument → ℕ → Item
item_at args k = get_or (items_of args) k no_item

-- what value k has of argument k
pub row_at : {s : List ℕ} {js : List Item} {args : List Argument} {v : List Value} → Valued s js args v → (k : ℕ) → FirstValue s (drop k args) (nth v k)
row_at w zero = w.row.first
row_at w (suc zero) = w.row.second
row_at w (suc (suc zero)) = w.row.third
row_at {s} {js} {args} {v} w (suc (suc (suc k))) = rw (drop_of_length-le args {i = suc (suc (suc k))} (omega (arith, w.few)), get_or-eq_default v no_value {n = suc (suc (suc k))} (omega (arith, w.row.size))) refl

value-at : (s : List ℕ) (args : List Argument) (k : ℕ) (x : Value) → FirstValue s (drop k args) x → ItemValued s (item_at args k) x.argument
value-at s [] zero x h = rw h (record { text_is = refl; number_is = refl; spelt = tt })
value-at s [] (suc k) x h = rw h (record { text_is = refl; number_is = refl; spelt = tt })
value-at s (a ∷ args) zero x h = h.1.entered
value-at s (a ∷ args) (suc k) x h = value-at s args k x h

pub enterable : {s : List ℕ} {v : List Value} {c : List ℕ} → EnterableValues s v c → (k : ℕ) {d : List ℕ} → Held d → EnterableValue s (nth v k).argument d
enterable {s} {v} u k held =
    record { item = item_at u.args k; valued = value-at s u.args k (nth v k) (row_at u.valued k); short = each_at ShortItem no_item (omega arith) (items_of u.args) (rw u.valued.items u.short) k; held = held }

-- ---- the table

-- the values of the arguments before argument k came to the cells d, which were c: what follows from the rest
pub record Going {X : Type 0} (equal : X → X → Bool) (value_of_lem : Item → X) (passes : Item → Bool) (table_of : Program → List X) (set-table : List X → Program → Program)
    (s : List ℕ) (v : List Value) (js : List Item) (args : List Argument) (c : List ℕ) (k : ℕ) (d : List ℕ) : Type 0 where
  pub laws : TableOf table_of set-table
  pub none_passes : passes no_item ≡ false
  pub valued : Valued s js args v
  pub held : Held d
  pub then : (f : Fault) (e : List ℕ) → Enters equal value_of_lem passes table_of set-table (items_of (drop k args)) d f e → Enters equal value_of_lem passes table_of set-table js c f e

module _ {X : Type 0} (equal : X → X → Bool) (value_of_lem : Item → X) (passes : Item → Bool) {table_of : Program → List X} {set-table : List X → Program → Program} (laws : TableOf table_of set-table) (none_passes : passes no_item ≡ false) where
  abbrev Entered : Item → List ℕ → Bool → List ℕ → Type 0
  Entered i c r d = EntersOne equal value_of_lem passes table_of set-table i c r d

  abbrev Rest : List Item → List ℕ → Fault → List ℕ → Type 0
  Rest js c r d = Enters equal value_of_lem passes table_of set-table js c r d

  pub going-first : {s : List ℕ} {v : List Value} {js : List Item} {args : List Argument} → Valued s js args v → {c : List ℕ} → Held c → Going equal value_of_lem passes table_of set-table s v js args c 0 c
  going-first w u = record { laws = laws; none_passes = none_passes; valued = w; held = u; then = λ f e k. rw w.items at k }

  -- an item that is none leaves what it is
  past-none : {c : List ℕ} {r : Bool} {d : List ℕ} → Entered no_item c r d → r ≡ true → {f : Fault} {e : List ℕ} → Rest [] d f e → Rest [] c f e
  past-none h q k =
      let m = all-on equal value_of_lem passes table_of set-table laws no_item [] h q k in
      record { told = λ p g. rw none_passes at (m.told p g); holds = λ z p g. rw none_passes at (m.holds z p g); still = m.still; beyond_same = m.beyond_same }

  row_on : (args : List Argument) (k : ℕ) {c : List ℕ} {r : Bool} {d : List ℕ} → Entered (item_at args k) c r d → r ≡ true → {f : Fault} {e : List ℕ} → Rest (items_of (drop (suc k) args)) d f e → Rest (items_of (drop k args)) c f e
  row_on [] zero h q m = past-none h q m
  row_on [] (suc k) h q m = past-none h q m
  row_on (a ∷ args) zero h q m = all-on equal value_of_lem passes table_of set-table laws a.item (items_of args) h q m
  row_on (a ∷ args) (suc k) h q m = row_on args k h q m

  no_stop : {c : List ℕ} {r : Bool} {d : List ℕ} → Entered no_item c r d → r ≡ false → Held c → ⊥
  no_stop h q u = true≢false (sym (rw none_passes at (h.told u.program u.holds)) ∙ q)

  row-stop : (s : List ℕ) (args : List Argument) (k : ℕ) (x : Value) → FirstValue s (drop k args) x → {c : List ℕ} {r : Bool} {d : List ℕ} → Entered (item_at args k) c r d → r ≡ false → Held c → Ordered (items_of args)
      → Rest (items_of (drop k args)) c (Some x.at) d
  row-stop s [] zero x f h q u o = absurd (no_stop h q u)
  row-stop s [] (suc k) x f h q u o = absurd (no_stop h q u)
  row-stop s (a ∷ args) zero x f h q u o = rw f.0 (all-stop equal value_of_lem passes table_of set-table laws a.item (items_of args) h q o.0)
  row-stop s (a ∷ args) (suc k) x f h q u o = row-stop s args k x f h q u o.1

module _ {X : Type 0} {equal : X → X → Bool} {value_of_lem : Item → X} {passes : Item → Bool} {table_of : Program → List X} {set-table : List X → Program → Program}
    {s : List ℕ} {v : List Value} {js : List Item} {args : List Argument} {c : List ℕ} where
  module _ {k : ℕ} {d : List ℕ} (g : Going equal value_of_lem passes table_of set-table s v js args c k d)
      {r : Bool} {e : List ℕ} (t : (i : Item) → ItemValued s i (nth v k).argument → EntersOne equal value_of_lem passes table_of set-table i d r e) where
    one : EntersOne equal value_of_lem passes table_of set-table (item_at args k) d r e
    one = t (item_at args k) (value-at s args k (nth v k) (row_at g.valued k))

    pub going_on : r ≡ true → Going equal value_of_lem passes table_of set-table s v js args c (k + 1) e
    going_on q =
        record {
          laws = g.laws;
          none_passes = g.none_passes;
          valued = g.valued;
          held = still-held equal value_of_lem passes table_of set-table g.laws (item_at args k) one q g.held;
          then = λ f e' m. g.then f e' (row_on equal value_of_lem passes g.laws g.none_passes args k one q (rw (add-one k) at m));
        }

    pub going-stops : r ≡ false → Enters equal value_of_lem passes table_of set-table js c (Some (nth v k).at) e
    going-stops q =
        g.then (Some (nth v k).at) e
        (row-stop equal value_of_lem passes g.laws g.none_passes s args k (nth v k) (row_at g.valued k) one q g.held (rw g.valued.items g.valued.ordered))

  pub going-ends : {k : ℕ} {d : List ℕ} → Going equal value_of_lem passes table_of set-table s v js args c k d → 3 ≤ k → Enters equal value_of_lem passes table_of set-table js c None d
  going-ends {k} {d} g l = g.then None d (rw (drop_of_length-le args {i = k} (omega (arith, g.valued.few))) (none-entered equal value_of_lem passes table_of set-table g.laws))
