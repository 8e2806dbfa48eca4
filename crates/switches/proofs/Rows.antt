-- The rows of the instructions with a switch: that their functions do what they say.
use mathlib.Core.Path.{◌≡◌, refl, sym, ◌∙◌, subst}
use mathlib.Core.Bool.{Bool, true, false, cond, ◌&&◌}
use mathlib.Core.List.{List}
use Prim.Native.Nat.{ℕ, zero, suc, pred, ◌<◌}
use native.Mathlib.Omega.{arith}
use lib.Dec.{leb, leb→le, T}
use lib.IntN.{ℤ, pos, negsuc, nat_abs}
use lib.ListN.{length}
use lib.Signed.{lt_z}
use Rattle.std.specs.Prelude.{Option, Some, None}
use Rattle.std.proofs.Common.{ltb-true}
use Rattle.std.proofs.lemmas.Option.{none-some, cond_some}
use Rattle.lists.specs.ListLaws.{T-right}
use Rattle.lists.specs.Lists.{filled}
use Rattle.language.specs.Program.{Entry, no_entry, target_of, meets}
use Rattle.language.specs.Program.Arg.{nothing, switch}
use Rattle.language.specs.Program.Op.{SZUKAJ}
use Rattle.language.specs.Values.{Component, Store, State, Inputs, chars, value}
use Rattle.machine.specs.Arguments.{first, none, ask, ◌&◌, needs}
use Rattle.machine.specs.Changes.{with_plus, minus, used}
use Rattle.machine.specs.Effects.{Go, Row, relation, by_name, by_index, row}
use Rattle.machine.specs.Effects.Go.{on}
use Rattle.layout.specs.Table.{program_of}
use Rattle.state.specs.Working.{HoldsState, Stands, on_store, nth, reading}
use Rattle.state.proofs.Standing.{after-state}
use Rattle.control.specs.Going.{going}
use Rattle.control.proofs.Laws.{made_after}
use Rattle.table.specs.MetLaws.{keep-first, keep-filled}
use Rattle.instructions.specs.Does.{Quiet, stop_of, Goes, DoesIn, GoesIn}
use Rattle.instructions.specs.Fronts.{front_part}
use Rattle.instructions.proofs.Answers.{stop_by, unstopped, goes-stop, quiet-stop, quiet-done}
use Rattle.instructions.proofs.Goings.{Yes, none-yes, answer-first, answer-outside, goes-made, goes-yes}
use Rattle.jumps.specs.Jumps.{Led, going_by}
use Rattle.jumps.proofs.Leading.{can_lead, led-full}
use Rattle.jumps.specs.declared.Way.{Way}
use Rattle.jumps.specs.declared.Way.TheVariants.{Jump, Call}
use Rattle.switches.specs.Switches.{missing, word_op, number_op, entries_at, first_met, is_met, met_entry, is_inside, numbered_entry, entry_goal, entry_row, Fronted, EntryGo, Switches, Goal}
use Rattle.switches.proofs.Fronts.{some-front, many}

-- ---- going by an entry

pub kept-store : {σ' s : State} → HoldsState σ' s → HoldsState σ' (on_store (missing Jump) s)
unfolding on_store
kept-store h = h

-- the component in front stays where it is
pub fronted-after : {σ σ' : State} {i : ℕ} (g : Go) → Fronted σ i → HoldsState σ' (going g σ) → Fronted σ' i
unfolding going
fronted-after {i = i} g f h = record { index = f.index; some = subst (λ (t : State). filled (front_part t.store i) ≡ true) (sym h.is) f.some }

-- gone by entry j of switch k, or the return stack is full
module _ {σ : State} (h : Stands σ) {c : List ℕ} (i : ℕ) {k j : ℕ} (way : Way) (b : Bool) {t : ℕ} (q : Goal c k j t) where
  abbrev to_goal : Go
  to_goal = going_by way (entry_goal c k j)

  abbrev used_front : Store → Store
  used_front = used (nth (reading b) i)

  pub went-by : {σ' σ'' : State} → HoldsState σ' (going (going_by way t) σ) → HoldsState σ'' (on_store used_front σ')
      → Goes σ 0 σ'' (entry_row (going_by way) c k j σ.store b i)
  went-by g m =
      goes-made (none, used_front σ.store, to_goal) none-yes (can_lead way (entry_goal c k j) σ.stack)
      (rw (made_after none used_front to_goal σ) (after-state (rw q.is at g) (on_store used_front) m))

  pub went-full : {x : ℕ} {σ' : State} → Led σ (going_by way t) x σ' → (x ≡ 0 → ⊥) → Goes σ x σ' (entry_row (going_by way) c k j σ.store b i)
  went-full w z = led-full h to_goal (can_lead way (entry_goal c k j) σ.stack) (rw q.is at w) (used_front σ.store) z

-- ---- the rows

module _ (c : List ℕ) (s : Store) (k i : ℕ) where
  abbrev test : Entry → Bool
  test e = meets (program_of c) e (chars (first (front_part s i)))

  abbrev named_row : Way → Bool → Row
  named_row way b =
      (needs 0 (front_part s i), cond (is_met c k s i) (used (nth (reading b) i) s) (missing way s), cond (is_met c k s i) (going_by way (entry_goal c k (first_met c k s i))) on)

  abbrev search_row : Bool → Row
  search_row b = (needs 0 (front_part s i), cond (is_met c k s i) (used (nth (reading b) i) s) (with_plus false s), on)

  abbrev index_row : Way → Bool → Row
  index_row way b =
      (needs 1 (front_part s i) & ask 56 (is_inside c k s i), used (nth (reading b) i) s, going_by way (entry_goal c k (pred (nat_abs (value (first (front_part s i)))))))

  module _ (ins : Inputs) where
    by_name-is : (to : ℕ → Go) (missed : Store) (b : Bool) → by_name (program_of c) ins s to missed (nth (reading b) i) (switch k)
        ≡ (needs 0 (front_part s i), cond (is_met c k s i) (used (nth (reading b) i) s) missed, cond (is_met c k s i) (to (entry_goal c k (first_met c k s i))) on)
    unfolding by_name
    by_name-is to missed true =
        rw (
          keep-first test no_entry missed (λ e. used (nth (reading true) i) s) (entries_at c k),
          keep-first test no_entry on (λ e. to (target_of (program_of c) e)) (entries_at c k),
        ) refl
    by_name-is to missed false =
        rw (
          keep-first test no_entry missed (λ e. used (nth (reading false) i) s) (entries_at c k),
          keep-first test no_entry on (λ e. to (target_of (program_of c) e)) (entries_at c k),
        ) refl

    row-word : (way : Way) (b : Bool) → row (program_of c) ins s (nth (reading b) i) (switch k) nothing (word_op way) ≡ named_row way b
    unfolding row minus
    row-word Jump b = by_name-is (going_by Jump) s b
    row-word Call b = by_name-is (going_by Call) (with_plus false s) b

    row-number : (way : Way) (b : Bool) → row (program_of c) ins s (nth (reading b) i) (switch k) nothing (number_op way) ≡ index_row way b
    unfolding row by_index
    row-number Jump true = refl
    row-number Jump false = refl
    row-number Call true = refl
    row-number Call false = refl

    row-szukaj : (b : Bool) → row (program_of c) ins s (nth (reading b) i) (switch k) nothing SZUKAJ ≡ search_row b
    unfolding row relation minus
    row-szukaj true = rw (keep-filled test no_entry (entries_at c k)) refl
    row-szukaj false = rw (keep-filled test no_entry (entries_at c k)) refl

-- ---- what is asked of the component in front

with-inside : (a b c : Bool) → stop_by a b c ≡ stop_by (a && true) (b && true) (c && true)
with-inside true true true = refl
with-inside true true false = refl
with-inside true false c = refl
with-inside false b c = refl

quiet-needs : (xs : List Component) → Quiet (needs 0 xs)
quiet-needs xs = record { is_50 = refl; is_55 = refl; is_56 = refl; is_57 = refl; is_58 = refl; is_59 = refl; is_60 = refl }

module _ (kd : ℕ) (xs : List Component) (q : 0 ≡ stop_of (needs kd xs)) where
  right : (needs kd xs 52 ≡ true) × (needs kd xs 53 ≡ true) × (needs kd xs 54 ≡ true)
  right = unstopped (needs kd xs) (sym q)

  needs-yes : Yes (needs kd xs)
  needs-yes = (refl, (right.0, (right.1, (refl, (refl, (refl, (refl, (refl, (refl, (refl, tt))))))))))

  inside-yes : {a : Bool} → a ≡ true → Yes (needs kd xs & ask 56 a)
  inside-yes h = (refl, (rw right.0 refl, (rw right.1 refl, (refl, (refl, (h, (refl, (refl, (refl, (refl, tt))))))))))

-- ---- the entry found: it is the first met, or none is

unchosen : (b : Bool) (n : ℕ) → cond b (Some n) None ≡ None → b ≡ false
unchosen true n e = absurd (none-some n (sym e))
unchosen false n e = refl

module _ (c : List ℕ) (s : Store) (k i : ℕ) {o : Option ℕ} where
  module _ (f : o ≡ met_entry c k s i) where
    met-there : {j : ℕ} → o ≡ Some j → (is_met c k s i ≡ true) × (first_met c k s i ≡ j)
    met-there {j} e = cond_some (is_met c k s i) (first_met c k s i) j (sym f ∙ e)

    none-met : o ≡ None → is_met c k s i ≡ false
    none-met e = unchosen (is_met c k s i) (first_met c k s i) (sym f ∙ e)

  module _ (f : o ≡ numbered_entry c k s i) where
    abbrev place : ℕ
    place = pred (nat_abs (value (first (front_part s i))))

    inside-there : {j : ℕ} → o ≡ Some j → (is_inside c k s i ≡ true) × (place ≡ j)
    inside-there {j} e = cond_some (is_inside c k s i) place j (sym f ∙ e)

    none-inside : o ≡ None → is_inside c k s i ≡ false
    none-inside e = unchosen (is_inside c k s i) place (sym f ∙ e)

within : (z : ℤ) (n : ℕ) → T (lt_z (pos 0) z && leb (nat_abs z) n) → pred (nat_abs z) < n
within (pos zero) n q = absurd q
within (pos (suc m)) n q = leb→le (suc m) n (T-right (lt_z (pos 0) (pos (suc m))) (leb (suc m) n) q)
within (negsuc m) n q = absurd q

module _ {c : List ℕ} {σ : State} {i k : ℕ} (w : Switches c σ i k) where
  entry_go : {j : ℕ} → filled (front_part σ.store i) ≡ true → j < length (entries_at c k) → EntryGo c σ i k j
  entry_go f b =
      record {
        fronted = record { index = w.looks.index; some = f };
        entered = record { good = w.good; switch = w.looks.switch; below = omega (arith, b, many w.looks.switch) };
        following = w.following;
      }

  pub met-go : {o : Option ℕ} {j : ℕ} → 0 ≡ stop_of (needs 0 (front_part σ.store i)) → o ≡ met_entry c k σ.store i → o ≡ Some j → EntryGo c σ i k j
  met-go q f e =
      let m = met-there c σ.store k i f e in
      entry_go (some-front σ.store i 0 q) (omega (arith, m.1, ltb-true (first_met c k σ.store i) (length (entries_at c k)) m.0))

  pub inside-go : {o : Option ℕ} {j : ℕ} → 0 ≡ stop_of (needs 1 (front_part σ.store i)) → o ≡ numbered_entry c k σ.store i → o ≡ Some j → EntryGo c σ i k j
  inside-go q f e =
      let m = inside-there c σ.store k i f e in
      entry_go (some-front σ.store i 1 q) (omega (arith, m.1, within (value (first (front_part σ.store i))) (length (entries_at c k)) (subst T (sym m.0) tt)))

-- ---- the instructions

module _ {σ : State} (h : Stands σ) (c : List ℕ) (i k : ℕ) (b : Bool) where
  abbrev s : Store
  s = σ.store

  -- 52 or 53 is answered no
  module _ {x : ℕ} (z : x ≡ 0 → ⊥) where
    pub word-stop : (way : Way) → x ≡ stop_of (needs 0 (front_part s i))
        → GoesIn σ x σ (λ ins. row (program_of c) ins s (nth (reading b) i) (switch k) nothing (word_op way))
    word-stop way q ins =
        let r = named_row c s k i way b in
        rw (row-word c s k i ins way b) (goes-stop h r (answer-first r σ refl q z) z)

    pub number-stop : (way : Way) → x ≡ stop_of (needs 1 (front_part s i))
        → GoesIn σ x σ (λ ins. row (program_of c) ins s (nth (reading b) i) (switch k) nothing (number_op way))
    number-stop way q ins =
        let r = index_row c s k i way b in
        let a = needs 1 (front_part s i) in
        rw (row-number c s k i ins way b) (goes-stop h r (answer-first r σ refl (q ∙ with-inside (a 52) (a 53) (a 54)) z) z)

    pub szukaj-stop : x ≡ stop_of (needs 0 (front_part s i))
        → DoesIn σ x σ (λ ins. row (program_of c) ins s (nth (reading b) i) (switch k) nothing SZUKAJ)
    szukaj-stop q ins =
        rw (row-szukaj c s k i ins b) (quiet-stop h (needs 0 (front_part s i)) (search_row c s k i b).1 (quiet-needs (front_part s i)) q z)

  -- both are answered yes: by a word
  module _ (q : 0 ≡ stop_of (needs 0 (front_part s i))) {o : Option ℕ} (f : o ≡ met_entry c k s i) where
    pub word-goes : (way : Way) {j : ℕ} → o ≡ Some j → {y : ℕ} {σ' : State} → Goes σ y σ' (entry_row (going_by way) c k j s b i)
        → GoesIn σ y σ' (λ ins. row (program_of c) ins s (nth (reading b) i) (switch k) nothing (word_op way))
    word-goes way {j} e {y} {σ'} g ins =
        let m = met-there c s k i f e in
        let g' = subst (λ (l : ℕ). Goes σ y σ' (entry_row (going_by way) c k l s b i)) (sym m.1) g in
        rw (row-word c s k i ins way b, m.0)
        (goes-yes (needs 0 (front_part s i)) (used (nth (reading b) i) s) (going_by way (entry_goal c k (first_met c k s i))) (needs-yes 0 (front_part s i) q) g')

    pub word-on : (way : Way) → o ≡ None → {σ' : State} → HoldsState σ' (on_store (missing way) (going on σ))
        → GoesIn σ 0 σ' (λ ins. row (program_of c) ins s (nth (reading b) i) (switch k) nothing (word_op way))
    word-on way e g ins =
        let a = needs 0 (front_part s i) in
        rw (row-word c s k i ins way b, none-met c s k i f e)
        (goes-made (a, missing way s, on) (needs-yes 0 (front_part s i) q) refl (rw (made_after a (missing way) on σ) g))

    pub szukaj-met : {j : ℕ} → o ≡ Some j → {σ' : State} → HoldsState σ' (on_store (used (nth (reading b) i)) σ)
        → DoesIn σ 0 σ' (λ ins. row (program_of c) ins s (nth (reading b) i) (switch k) nothing SZUKAJ)
    unfolding on_store
    szukaj-met e g ins =
        rw (row-szukaj c s k i ins b, (met-there c s k i f e).0)
        (quiet-done h (needs 0 (front_part s i)) (used (nth (reading b) i) s) (quiet-needs (front_part s i)) (sym q) g)

    pub szukaj-none : o ≡ None → {σ' : State} → HoldsState σ' (on_store (with_plus false) σ)
        → DoesIn σ 0 σ' (λ ins. row (program_of c) ins s (nth (reading b) i) (switch k) nothing SZUKAJ)
    unfolding on_store
    szukaj-none e g ins =
        rw (row-szukaj c s k i ins b, none-met c s k i f e)
        (quiet-done h (needs 0 (front_part s i)) (with_plus false s) (quiet-needs (front_part s i)) (sym q) g)

  -- by a number
  module _ (q : 0 ≡ stop_of (needs 1 (front_part s i))) {o : Option ℕ} (f : o ≡ numbered_entry c k s i) (way : Way) where
    pub number-goes : {j : ℕ} → o ≡ Some j → {y : ℕ} {σ' : State} → Goes σ y σ' (entry_row (going_by way) c k j s b i)
        → GoesIn σ y σ' (λ ins. row (program_of c) ins s (nth (reading b) i) (switch k) nothing (number_op way))
    number-goes {j} e {y} {σ'} g ins =
        let m = inside-there c s k i f e in
        let r = index_row c s k i way b in
        let g' = subst (λ (l : ℕ). Goes σ y σ' (entry_row (going_by way) c k l s b i)) (sym m.1) g in
        rw (row-number c s k i ins way b) (goes-yes r.0 r.1 r.2 (inside-yes 1 (front_part s i) q m.0) g')

    pub number-outside : o ≡ None → GoesIn σ 56 σ (λ ins. row (program_of c) ins s (nth (reading b) i) (switch k) nothing (number_op way))
    number-outside e ins =
        let r = index_row c s k i way b in
        let a = needs 1 (front_part s i) in
        rw (row-number c s k i ins way b)
        (goes-stop h r (answer-outside r σ refl (sym (with-inside (a 52) (a 53) (a 54)) ∙ sym q) refl (none-inside c s k i f e)) (λ y. omega (arith, y)))
