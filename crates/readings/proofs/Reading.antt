-- What a test takes of the unread characters of an input: passed, and written as a word.
use mathlib.Core.Path.{◌≡◌, refl, sym, ap, ◌∙◌}
use mathlib.Core.Bool.{Bool, true, false}
use mathlib.Core.List.{List, [], ◌∷◌}
use Prim.Native.Nat.{ℕ, ◌+◌, ◌≤◌, ◌<◌}
use native.Mathlib.Omega.{arith}
use lib.ListN.{length, take, length-take}
use Rattle.language.specs.Limits as limit
use Rattle.language.specs.Letters.Letter.{I}
use Rattle.language.specs.Values.{Component, Store, State, chars}
use Rattle.language.specs.Values.Component.{word}
use Rattle.machine.specs.Arguments.{Until}
use Rattle.machine.specs.Changes.{with_places, minus_unless, into, past_by, past, held, fits}
use Rattle.layout.specs.Bounds.{Encoded}
use Rattle.layout.proofs.ComponentLaws.{components_bytes-one, components-of, whole-components}
use Rattle.layout.specs.Components.{component_bytes, components_bytes, components_in}
use Rattle.layout.specs.Memory.{components_held, chars_held}
use Rattle.components.specs.Parts.{Written}
use Rattle.matching.specs.Tests.{TookChars}
use Rattle.matching.specs.declared.CharsTaken.{CharsTaken}
use Rattle.state.specs.Working.{HoldsState, on_store, nth, writing}
use Rattle.state.specs.Blocks.{PartsWritable}
use Rattle.state.specs.Limited.{Limited}
use Rattle.state.proofs.Fits.{fine-limited, fits-minus_unless, fits-into}
use Rattle.state.proofs.Freed.{limited-past}
use Rattle.instructions.specs.Does.{Tried}
use Rattle.instructions.proofs.Answers.{one-after, tried-full}
use Rattle.moves.proofs.Rows.{done}
use Rattle.joining.specs.Joining.{word_if, some, word_room}
use Rattle.joining.proofs.Words.{word_count, word-chars, made-encoded, room_of, room-have}
use Rattle.readings.specs.Readings.{read_up, passed, Left}

-- nothing else changes where an input is read
held-past : (g : Component → ℕ) (i k : ℕ) (s : Store) → held g (past (nth I i) k s) ≡ held g s
unfolding held past past_by with_places
held-past g i k s = refl

none-long : length (components_bytes []) ≡ 0
unfolding components_bytes
none-long = refl

word-long : (w : List ℕ) → length (components_bytes (word_if w)) ≤ 1 + length w
unfolding component_bytes
word-long [] = omega (arith, none-long)
word-long (x ∷ w) = omega (arith, ap length (components_bytes-one (word (x ∷ w))))

module _ {σ : State} {input : List ℕ} {i : ℕ} {rest : List ℕ} (l : Left σ input i rest) {u : Until ℕ} {t : CharsTaken} (k : TookChars u rest t) where
  pub passed-done : {σ' : State} → HoldsState σ' (on_store (λ z. minus_unless t.reached (past (nth I i) t.taken z)) σ)
      → HoldsState σ' (on_store (passed u input i) σ)
  unfolding on_store passed
  passed-done g = rw (← l.is, k.is) g

  -- ---- as a word of expression j

  abbrev s : Store
  s = σ.store

  abbrev w : List ℕ
  w = take t.taken rest

  long : length w ≡ t.taken
  long = omega (arith, length-take t.taken rest, k.most)

  abbrev z : Store
  z = past (nth I i) t.taken s

  parts-left : components_held z + 0 ≡ components_held s
  parts-left = omega (arith, held-past (λ x. 1) i t.taken s)

  chars_left : chars_held z + 0 ≡ chars_held s
  chars_left = omega (arith, held-past (λ x. length (chars x)) i t.taken s)

  module _ {j : ℕ} (d : j < limit.expressions) where
    fits_read : (at_end : Bool) → fits (read_up u input i at_end j s) ≡ word_room false t.taken s
    unfolding read_up
    fits_read at_end =
        let f = l.stands.fine in
        let m : Limited z = limited-past s (fine-limited σ f) (nth I i) t.taken in
        let q : (j < length z.exprs) = rw m.exprs_is d in
        rw (← l.is, k.is)
        (fits-minus_unless t.reached (into (nth (writing at_end) j) (word_if w) z)
        ∙ fits-into (nth (writing at_end) j) z q (word_if w) m
        ∙ room_of w (some (length w)) (components_held s) (chars_held s) (components_held z) (chars_held z) f.components_most f.chars_most (omega arith) false parts-left chars_left
        ∙ ap (λ (m : ℕ). word_room false m s) long)

    pub word-full : (at_end : Bool) {r : Bool} → r ≡ word_room false t.taken s → r ≡ false → Tried σ 59 σ true (read_up u input i at_end j s)
    word-full at_end r q = tried-full l.stands (read_up u input i at_end j s) refl (fits_read at_end ∙ sym r ∙ q)

    module _ {r : Bool} (y : r ≡ word_room false t.taken s) (q : r ≡ true) where
      have : (length w ≤ limit.word) × (components_held z + some (length w) ≤ limit.components) × (chars_held z + length w ≤ limit.characters)
      have =
          let f = l.stands.fine in
          room-have w (some (length w)) (components_held s) (chars_held s) (components_held z) (chars_held z) f.components_most f.chars_most (omega arith) false parts-left chars_left
          (rw long (sym y ∙ q))

      module _ {o o' : List ℕ} {m : ℕ} (n : Written o (components_bytes (word_if w)) o' m) where
        pub word-inside : m ≤ 32768
        word-inside = omega (arith, n.count, word-long w, have.0)

        encoded : Encoded (take m o') (word_if w)
        encoded = made-encoded w n have.0

        new_is : components_in (take m o') ≡ word_if w
        new_is = components-of encoded

        pub writable : {b : ℕ} → b ≡ some t.taken → {σ' : State} → HoldsState σ' (on_store (past (nth I i) t.taken) σ) → PartsWritable σ' j (take m o') b t.taken
        unfolding on_store
        writable b g =
            record {
              index = d;
              whole = whole-components encoded;
              count = rw new_is (b ∙ ap some (sym long) ∙ sym (word_count w));
              chars_is = rw new_is (sym long ∙ sym (word-chars w));
              components_room = rw g.is (omega (arith, have.1, ap some long, b));
              chars_room = rw g.is (omega (arith, have.2, long));
            }

        as-read : (at_end : Bool) {σ' : State}
            → HoldsState σ' (on_store (λ x. minus_unless t.reached (into (nth (writing at_end) j) (components_in (take m o')) (past (nth I i) t.taken x))) σ)
            → HoldsState σ' (on_store (read_up u input i at_end j) σ)
        unfolding on_store read_up
        as-read at_end g = rw (← l.is, k.is, ← new_is) g

        pub read_done : (at_end : Bool) {σ₁ σ₂ : State} → HoldsState σ₁ (on_store (past (nth I i) t.taken) σ)
            → HoldsState σ₂ (on_store (λ x. minus_unless t.reached (into (nth (writing at_end) j) (components_in (take m o')) x)) σ₁)
            → Tried σ 0 σ₂ true (read_up u input i at_end j s)
        read_done at_end g h =
            done l.stands (read_up u input i at_end j)
            (as-read at_end (one-after σ (past (nth I i) t.taken) (λ x. minus_unless t.reached (into (nth (writing at_end) j) (components_in (take m o')) x)) g h))
