-- The state at work after a change beside expressions and files: of an output, of H, of a read place.
use mathlib.Core.Path.{◌≡◌, refl, sym, ap, ◌∙◌}
use mathlib.Core.Bool.{Bool, false, cond}
use mathlib.Core.List.{List, [], ◌∷◌, ◌++◌}
use Prim.Native.Nat.{ℕ, zero, suc, ◌+◌, ◌≤◌, ◌<◌}
use native.Mathlib.Omega.{arith}
use lib.ListN.{length, get_or, drop, set, length-set, length-append}
use Rattle.store.specs.Below.Limits as limit
use Rattle.store.specs.Below.Letters.Letter.{I, Q}
use Rattle.store.specs.Below.LanguageValues.{State}
use Rattle.store.specs.Below.Changes.{with_plus, minus_unless, with_outputs, with_places, printed, past, past_by, held, recorded}
use Rattle.store.specs.Below.LayoutBounds.{Fine}
use Rattle.store.specs.Below.LayoutMemory.{scalars, strings}
use Rattle.store.proofs.Below.MemoryLaws.{string-output}
use Rattle.store.specs.Below.LayoutPlaces as layout
use Rattle.store.specs.Below.Gaps.{pushed_back}
use Rattle.strings.specs.Strings.{Pushable}
use Rattle.store.specs.Below.LayoutPlaces.{output_string}
use Rattle.state.specs.Working.{Lies, on_store, nth}
use Rattle.state.specs.Blocks.{Printable, Readable}
use Rattle.state.proofs.Standing.{pushable, place_is}
use Rattle.state.proofs.Strings.{strings-output}
use Rattle.state.proofs.Fineness.{fine-beside}
use Rattle.state.proofs.Sequences.{each_set}

-- ---- an output

module _ {t : List (List ℕ)} {n : List ℕ} {s : State} (h : Lies t n s) {i : ℕ} (w : List ℕ) (pre : Printable s i (length w)) where
  abbrev old : List ℕ
  old = get_or s.store.outputs i []

  fine-printed : Fine (on_store (printed (nth Q i) w) s)
  unfolding on_store printed with_outputs
  fine-printed =
      let f = h.fine in
      fine-beside s f s.store.plus (set s.store.outputs i (old ++ w)) s.store.places s.next s.stack
      (length-set s.store.outputs i (old ++ w) ∙ f.outputs_is)
      (each_set (λ q. length q ≤ limit.output) s.store.outputs i (old ++ w) f.outputs_ok (rw (length-append old w) pre.room))
      f.places_is f.places_ok f.next_below f.stack_ok f.stack_most

  strings-printed : strings (on_store (printed (nth Q i) w) s) ≡ set (strings s) (output_string i) (old ++ w)
  unfolding on_store printed with_outputs
  strings-printed =
      let f = h.fine in
      strings-output s f.exprs_is f.files_is i (old ++ w)

  pub printable : Pushable t (output_string i) (length w)
  printable =
      pushable h (on_store (printed (nth Q i) w) s) fine-printed (output_string i) (old ++ w) strings-printed (omega (arith, pre.index))
      (rw (string-output s h.fine i, length-append old w) (omega arith))

  pub output-written : {t' : List (List ℕ)} → t' ≡ pushed_back (output_string i) w t
      → Lies t' n (on_store (printed (nth Q i) w) s)
  unfolding pushed_back on_store printed with_outputs held recorded
  output-written g =
      record {
        strings_is = rw strings-printed (rw (h.strings_is, string-output s h.fine i) at g);
        numbers = h.numbers;
        fine = fine-printed;
      }

-- ---- H

module _ {t : List (List ℕ)} {n : List ℕ} {s : State} (h : Lies t n s) where
  pub plus-set : (b : Bool) {n' : List ℕ} → n' ≡ set n layout.plus_scalar (cond b 1 0) → Lies t n' (on_store (with_plus b) s)
  unfolding on_store with_plus held recorded strings
  plus-set b q =
      let f = h.fine in
      record {
        strings_is = h.strings_is;
        numbers = q ∙ ap (λ (m : List ℕ). set m 0 (cond b 1 0)) h.numbers;
        fine =
            fine-beside s f b s.store.outputs s.store.places s.next s.stack f.outputs_is f.outputs_ok f.places_is f.places_ok
            f.next_below f.stack_ok f.stack_most;
      }

  pub plus-lost : {b : Bool} {n' : List ℕ} → b ≡ false → n' ≡ set n layout.plus_scalar 0 → Lies t n' (on_store (minus_unless b) s)
  unfolding on_store minus_unless
  plus-lost t q = rw t (plus-set false q)

-- ---- a read place

pub place_set : (ps : List ℕ) → length ps ≡ 2 → (k : ℕ) → k < 2 → (v h : ℕ) (t : List ℕ)
    → (h ∷ get_or (set ps k v) 0 0 ∷ get_or (set ps k v) 1 0 ∷ t) ≡ set (h ∷ get_or ps 0 0 ∷ get_or ps 1 0 ∷ t) (1 + k) v
place_set [] l k b v h t = absurd (omega (arith, l))
place_set (x ∷ []) l k b v h t = absurd (omega (arith, l))
place_set (x ∷ y ∷ ps) l zero b v h t = refl
place_set (x ∷ y ∷ ps) l (suc zero) b v h t = refl
place_set (x ∷ y ∷ ps) l (suc (suc k)) b v h t = absurd (omega arith)

module _ {t : List (List ℕ)} {n : List ℕ} {s : State} (h : Lies t n s) {i k : ℕ} (pre : Readable s i k) where
  abbrev place_at : ℕ
  place_at = get_or s.store.places i 0

  pub place-then : get_or n (1 + i) 0 + k ≤ limit.input
  place-then = omega (arith, place_is h pre.index, pre.room)

  pub read_past : {n' : List ℕ} → n' ≡ set n (1 + i) (get_or n (1 + i) 0 + k) → Lies t n' (on_store (past (nth I i) k) s)
  unfolding on_store past past_by with_places held recorded strings
  read_past q =
      let f = h.fine in
      let v = place_at + k in
      record {
        strings_is = h.strings_is;
        numbers =
            q ∙ ap (λ (x : ℕ). set n (1 + i) (x + k)) (place_is h pre.index) ∙ ap (λ (m : List ℕ). set m (1 + i) v) h.numbers
            ∙ sym (place_set s.store.places f.places_is i pre.index v (cond s.store.plus 1 0) (drop 3 (scalars s)));
        fine =
            fine-beside s f s.store.plus s.store.outputs (set s.store.places i v) s.next s.stack f.outputs_is f.outputs_ok
            (length-set s.store.places i v ∙ f.places_is) (each_set (λ m. m ≤ limit.input) s.store.places i v f.places_ok pre.room)
            f.next_below f.stack_ok f.stack_most;
      }
