-- The words that a test takes of an expression, made one word in front of it.
use mathlib.Core.Path.{◌≡◌, sym, ◌∙◌, subst}
use mathlib.Core.Bool.{Bool, true, false, cond}
use mathlib.Core.List.{List, [], ◌∷◌}
use Prim.Native.Nat.{ℕ, ◌+◌, ◌≤◌, ◌<◌}
use native.Mathlib.Omega.{arith}
use lib.ListN.{length, take, length-take}
use Rattle.language.specs.Limits as limit
use Rattle.language.specs.Letters.Letter.{E}
use Rattle.language.specs.Values.{Component, Store, State}
use Rattle.machine.specs.Arguments.{expr, Until}
use Rattle.machine.specs.Changes.{minus_unless, into, past, fits}
use Rattle.layout.specs.Bounds.{Encoded}
use Rattle.layout.proofs.ComponentLaws.{components-of, whole-components}
use Rattle.layout.specs.Components.{components_bytes, components_in}
use Rattle.layout.specs.Memory.{components_held, chars_held}
use Rattle.components.specs.Parts.{spelled, Written}
use Rattle.matching.specs.Tests.{Took}
use Rattle.matching.specs.declared.Taken.{Taken}
use Rattle.state.specs.Working.{HoldsState, Stands, on_store, nth, reading, writing, char_count}
use Rattle.state.specs.Blocks.{ExprLent, PartsWritable}
use Rattle.state.specs.Limited.{Limited}
use Rattle.state.proofs.Fits.{fine-limited, fits-minus_unless, fits-into}
use Rattle.state.proofs.Freed.{limited-past}
use Rattle.moves.proofs.Taking.{took, taken-part, parts-off, chars-off}
use Rattle.moves.proofs.WordsTaken.{part-is, chars-long}
use Rattle.joining.specs.Joining.{word_if, some, word_room, joined_up, WordsMakeable}
use Rattle.joining.proofs.Words.{some-most, word_count, word-chars, made-encoded, room_of, room-have}

-- characters are of components
some-least : (m : ℕ) (ys : List Component) → m ≡ char_count ys → some m ≤ length ys
some-least m [] q = rw q (omega arith)
some-least m (y ∷ ys) q = omega (arith, some-most m)

module _ {σ : State} {i : ℕ} {x : List ℕ} {u : Until Component} {t : Taken} (h : Stands σ) (b : i < limit.expressions) (l : ExprLent σ i x)
    (k : Took u (components_in x) t) where
  abbrev s : Store
  s = σ.store

  abbrev xs : List Component
  xs = expr s (nth E i)

  abbrev w : List ℕ
  w = spelled (take t.amount.parts xs)

  long : length w ≡ t.amount.chars
  long = chars-long h b l k

  few : some (length w) ≤ t.amount.parts
  few =
      rw long
      (omega (arith, some-least t.amount.chars (take t.amount.parts xs) (took h b l k).chars_is, length-take t.amount.parts xs, (took h b l k).parts_most))

  module _ (removes : Bool) where
    abbrev z : Store
    z = past (nth (reading removes) i) t.amount.parts s

    letters-off : chars_held z + cond removes (length w) 0 ≡ chars_held s
    letters-off = rw long (chars-off h b l k removes)

    -- the limits
    pub fits-joined : fits (joined_up u removes i s) ≡ word_room removes t.amount.chars s
    unfolding joined_up
    fits-joined =
        let m : Limited z = limited-past s (fine-limited σ h.fine) (nth (reading removes) i) t.amount.parts in
        let q : (i < length z.exprs) = rw m.exprs_is b in
        rw ((took h b l k).is, ← long)
        (fits-minus_unless t.reached (into (nth (writing false) i) (word_if w) z)
        ∙ fits-into (nth (writing false) i) z q (word_if w) m
        ∙ room_of w t.amount.parts (components_held s) (chars_held s) (components_held z) (chars_held z) h.fine.components_most h.fine.chars_most few removes (parts-off h b l k removes) letters-off)

    module _ (r : word_room removes t.amount.chars s ≡ true) where
      have : (length w ≤ limit.word) × (components_held z + some (length w) ≤ limit.components) × (chars_held z + length w ≤ limit.characters)
      have =
          room-have w t.amount.parts (components_held s) (chars_held s) (components_held z) (chars_held z) h.fine.components_most h.fine.chars_most few removes (parts-off h b l k removes) letters-off
          (rw long r)

      pub makeable : WordsMakeable (take t.amount.bytes x)
      makeable = record { whole = whole-components (taken-part h b l k); most = rw (part-is h b l k) have.0 }

      module _ {d d' : List ℕ} {m : ℕ} (v : Written d (components_bytes (word_if (spelled (components_in (take t.amount.bytes x))))) d' m) where
        joined_word : Written d (components_bytes (word_if w)) d' m
        joined_word = subst (λ (ys : List Component). Written d (components_bytes (word_if (spelled ys))) d' m) (part-is h b l k) v

        encoded : Encoded (take m d') (word_if w)
        encoded = made-encoded w joined_word have.0

        new_is : components_in (take m d') ≡ word_if w
        new_is = components-of encoded

        pub writable : {o : ℕ} → o ≡ some t.amount.chars → {σ' : State} → HoldsState σ' (on_store (past (nth (reading removes) i) t.amount.parts) σ)
            → PartsWritable σ' i (take m d') o t.amount.chars
        unfolding on_store
        writable o g =
            record {
              index = b;
              whole = whole-components encoded;
              count = rw (new_is, o, ← long) (sym (word_count w));
              chars_is = rw (new_is, ← long) (sym (word-chars w));
              components_room = rw (g.is, o, ← long) have.1;
              chars_room = rw (g.is, ← long) have.2;
            }

        pub joined-done : {σ' : State}
            → HoldsState σ' (on_store (λ y. minus_unless t.reached (into (nth (writing false) i) (components_in (take m d')) (past (nth (reading removes) i) t.amount.parts y))) σ)
            → HoldsState σ' (on_store (joined_up u removes i) σ)
        unfolding on_store joined_up
        joined-done g = rw ((took h b l k).is, ← new_is) g
