-- The state at work holds the state that it reads as: a change of what it holds is that change of the state.
use mathlib.Core.Path.{◌≡◌, refl, sym, ap, ◌∙◌, subst}
use mathlib.Core.Bool.{Bool, true, false, cond}
use Prim.Native.Nat.{ℕ, zero, suc, ◌+◌, ◌≤◌, ◌<◌}
use mathlib.Core.List.{List, [], ◌∷◌}
use native.Mathlib.Omega.{arith}
use lib.Dec.{eqb}
use lib.ListN.{length, get_or, drop, set}
use Rattle.lists.specs.BoolLaws.{sign-back}
use Rattle.store.specs.Below.Limits as limit
use Rattle.store.specs.Below.Letters.Letter.{E}
use Rattle.store.specs.Below.LanguageValues.{Store, State}
use Rattle.store.specs.Below.MachineArguments.{expr}
use Rattle.store.specs.Below.LayoutMemory.{scalars, strings, state_by}
use Rattle.store.proofs.Below.MemoryLaws.{length-strings, state_by-back, string-output, expr-encoded}
use Rattle.store.proofs.Below.ComponentLaws.{components-of, whole-components}
use Rattle.store.proofs.Below.LayoutCellLaws.{each_at}
use Rattle.store.proofs.Below.FineLaws.{fine-room}
use Rattle.store.specs.Below.LayoutBounds.{Each, Encoded, Fine}
use Rattle.store.specs.Below.Strings.{used}
use Rattle.store.specs.Below.LayoutPlaces as layout
use Rattle.store.proofs.Below.Index.{used-set}
use Rattle.store.specs.Below.Pool.{string}
use Rattle.strings.specs.Strings.{Pushable}
use Rattle.store.specs.Below.LayoutPlaces.{output_string}
use Rattle.state.specs.Working.{Lies, LiesSo, HoldsState, Stands, on_store, nth}
use Rattle.state.specs.Blocks.{Told, ReadTo, ExprLent, OutputLong}

sign-most : (b : Bool) → cond b 1 0 ≤ limit.addresses
sign-most true = omega arith
sign-most false = omega arith

module _ {t : List (List ℕ)} {n : List ℕ} {s : State} (h : Lies t n s) where
  pub state_of : state_by t n ≡ s
  state_of = rw (h.strings_is, h.numbers) (state_by-back s h.fine)

  pub stands : LiesSo t n
  stands = subst (λ (x : State). Lies t n x) (sym state_of) h

  -- the scalars and the strings in it
  pub numbers-long : length n ≡ 8
  numbers-long = rw h.numbers

  pub number_is : (k : ℕ) → get_or n k 0 ≡ get_or (scalars s) k 0
  number_is k = ap (λ (m : List ℕ). get_or m k 0) h.numbers

  -- none is more than the most addresses
  scalars-most : Each (λ x. x ≤ limit.addresses) (scalars s)
  scalars-most =
      let f = h.fine in
      let place : (k : ℕ) → get_or s.store.places k 0 ≤ limit.input = each_at (λ x. x ≤ limit.input) 0 (omega arith) s.store.places f.places_ok in (
        sign-most s.store.plus,
        (
          omega (arith, place 0),
          (
            omega (arith, place 1),
            (
              omega (arith, f.next_below),
              (f.last_most, (omega (arith, f.components_most), (omega (arith, f.chars_most), (omega (arith, f.records_most), tt)))),
            ),
          ),
        ),
      )

  pub number_most : (k : ℕ) → get_or n k 0 ≤ limit.addresses
  number_most k = rw h.numbers (each_at (λ x. x ≤ limit.addresses) 0 (omega arith) (scalars s) scalars-most k)

  pub plus-is : eqb (get_or n layout.plus_scalar 0) 1 ≡ s.store.plus
  plus-is = rw h.numbers (sign-back s.store.plus)

  pub string-is : (i : ℕ) → string i t ≡ string i (strings s)
  string-is i = ap (string i) h.strings_is

  -- m bytes more have room at string i, where a fine state has string i that much longer
  pub pushable : (y : State) → Fine y → (i : ℕ) (v : List ℕ) → strings y ≡ set (strings s) i v → i < layout.strings_count → {m : ℕ}
      → m + length (string i (strings s)) ≤ length v → Pushable t i m
  pushable y f i v q b w =
      let l : i < length (strings s) = rw (length-strings s h.fine) b in
      record {
        index = b;
        total = omega (arith, fine-room y f, ap used q, used-set (strings s) i v l, ap used h.strings_is);
      }

-- what a closed value is
pub becomes : {t : List (List ℕ)} {n : List ℕ} {s : State} → Lies t n s → HoldsState (state_by t n) s
becomes h = record { is = state_of h; fine = h.fine }

pub stood : {t : List (List ℕ)} {n : List ℕ} {s : State} → LiesSo t n → state_by t n ≡ s → Stands s
stood h q = record { is = refl; fine = subst Fine q h.fine }

-- a change of what is held is the same change of s
pub after-state : {w w' s : State} → HoldsState w s → (f : State → State) → HoldsState w' (f w) → HoldsState w' (f s)
after-state {w} {w'} {s} h f k = subst (λ (x : State). HoldsState w' (f x)) h.is k

-- two changes of the store alone in one
pub on-store-twice : (f g : Store → Store) (s : State) → on_store g (on_store f s) ≡ on_store (λ t. g (f t)) s
unfolding on_store
on-store-twice f g s = refl

-- strings and scalars that stand hold the state that they are read as
pub held : {t : List (List ℕ)} {n : List ℕ} {s : State} → LiesSo t n → state_by t n ≡ s → Lies t n s
held {t} {n} k q = subst (λ (x : State). Lies t n x) q k

-- what the readers tell
pub told : {t : List (List ℕ)} {n : List ℕ} {s : State} (h : Lies t n s) {k r : ℕ} → r ≡ get_or n k 0 → Told s k r
told h {k} q = record { stands = record { is = refl; fine = h.fine }; is = q ∙ number_is h k; most = rw q (number_most h k) }

pub expr-lent : {t : List (List ℕ)} {n : List ℕ} {s : State} (h : Lies t n s) {i : ℕ} {r : List ℕ} → i < limit.expressions → r ≡ string i t → length r ≤ 32768 → ExprLent s i r
expr-lent {s = s} h {i} {r} b w m =
    let x = expr-encoded s h.fine i b in
    let c : Encoded r (expr s.store (nth E i)) = record { is = w ∙ string-is h i ∙ x.is; all_ok = x.all_ok } in
    record { stands = record { is = refl; fine = h.fine }; encoded = c; whole = whole-components c; is = components-of c; most = m }

pub place_of : (m : List ℕ) (h : ℕ) (ps t : List ℕ) → m ≡ (h ∷ get_or ps 0 0 ∷ get_or ps 1 0 ∷ t) → (k : ℕ) → k < 2 → get_or m (1 + k) 0 ≡ get_or ps k 0
place_of m h ps t q zero b = rw q
place_of m h ps t q (suc zero) b = rw q
place_of m h ps t q (suc (suc k)) b = absurd (omega arith)

pub place_is : {t : List (List ℕ)} {n : List ℕ} {s : State} {i : ℕ} → Lies t n s → i < limit.inputs → get_or n (1 + i) 0 ≡ get_or s.store.places i 0
place_is {n = n} {s = s} {i = i} h b = place_of n (cond s.store.plus 1 0) s.store.places (drop 3 (scalars s)) h.numbers i b

pub read-to : {t : List (List ℕ)} {n : List ℕ} {s : State} (h : Lies t n s) {i r : ℕ} → i < limit.inputs → r ≡ get_or n (1 + i) 0 → ReadTo s i r
read-to {s = s} h {i} {r} b q =
    let x : r ≡ get_or s.store.places i 0 = q ∙ place_is h b in
    record { stands = record { is = refl; fine = h.fine }; is = x; most = rw x (each_at (λ k. k ≤ limit.input) 0 (omega arith) s.store.places h.fine.places_ok i) }

pub output-long : {t : List (List ℕ)} {n : List ℕ} {s : State} (h : Lies t n s) {i r : ℕ} → r ≡ length (string (output_string i) t) → OutputLong s i r
output-long {s = s} h {i} {r} l =
    let q : r ≡ length (get_or s.store.outputs i []) = l ∙ ap length (string-is h (output_string i) ∙ string-output s h.fine i) in
    record { stands = record { is = refl; fine = h.fine }; is = q; most = rw q (each_at (λ o. length o ≤ limit.output) [] (omega arith) s.store.outputs h.fine.outputs_ok i) }
