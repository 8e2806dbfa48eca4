-- The characters that a test takes of the first word of an expression, made words in front of it.
use mathlib.Core.Path.{◌≡◌, refl, sym, ap, ◌∙◌, subst}
use mathlib.Core.Bool.{Bool, true, false, cond, ◌&&◌}
use mathlib.Core.List.{List, [], ◌∷◌, map}
use Prim.Native.Nat.{ℕ, suc, ◌+◌, ◌<◌}
use native.Mathlib.Omega.{arith}
use lib.Dec.{leb}
use lib.ListN.{length, take, length-take}
use borrow.Author.Tests.{leb-true}
use Rattle.std.proofs.lemmas.Bool.{and_parts}
use Rattle.language.specs.Limits as limit
use Rattle.language.specs.Letters.Letter.{E}
use Rattle.language.specs.Values.{Component, Store, State, chars}
use Rattle.language.specs.Values.Component.{word, address}
use Rattle.machine.specs.Arguments.{expr, first, char, Until}
use Rattle.machine.specs.Changes.{minus_unless, into, past, fits}
use Rattle.layout.specs.Bounds.{Each, Ok, Encoded}
use Rattle.layout.proofs.ComponentLaws.{components_bytes-one, components-of, whole-components}
use Rattle.layout.specs.Components.{component_bytes, components_bytes, component_in, components_in}
use Rattle.layout.specs.Memory.{components_held, chars_held}
use Rattle.components.specs.Parts.{LentChars, Written}
use Rattle.matching.specs.Tests.{TookChars}
use Rattle.matching.specs.declared.CharsTaken.{CharsTaken}
use Rattle.state.specs.Working.{HoldsState, on_store, nth, reading, writing, char_count}
use Rattle.state.specs.Blocks.{ExprLent, FirstParts, PartsDroppable, PartsWritable}
use Rattle.state.specs.Limited.{Limited}
use Rattle.state.proofs.Fits.{fine-limited, fits-minus_unless, fits-into-ok}
use Rattle.state.proofs.Freed.{limited-past, components-past, chars-past}
use Rattle.instructions.specs.Does.{room_after}
use Rattle.instructions.specs.Fronts.{front_part}
use Rattle.instructions.proofs.Room.{room-freed}
use Rattle.moves.proofs.Taking.{parts-least}
use Rattle.readings.proofs.Below.Words.{written_is}
use Rattle.splitting.specs.Splitting.{split_up, FirstWord}
use Rattle.splitting.proofs.Asking.{first-in}

-- ---- words of one character

chars-count : (v : List ℕ) → length (map char v) ≡ length v
chars-count [] = refl
chars-count (x ∷ v) = ap suc (chars-count v)

chars-total : (v : List ℕ) → char_count (map char v) ≡ length v
chars-total [] = refl
chars-total (x ∷ v) = omega (arith, chars-total v)

chars-ok : (v : List ℕ) → Each Ok (map char v)
chars-ok [] = tt
chars-ok (x ∷ v) = ((omega arith, omega arith), chars-ok v)

-- ---- the first word

word_bytes : (w : List ℕ) (m : ℕ) → m ≡ length w → 1 + m ≡ length (components_bytes (word w ∷ []))
unfolding component_bytes
word_bytes w m q = omega (arith, ap length (components_bytes-one (word w)), q)

first-parts : (xs : List Component) → FirstWord xs → (m : ℕ) → m ≡ length (chars (first (take 1 xs))) → FirstParts xs 1 (1 + m) m
first-parts [] f m q = absurd (omega (arith, f.some))
first-parts (word w ∷ xs) f m q = record { most = omega arith; bytes_is = word_bytes w m q; chars_is = omega (arith, q) }
first-parts (Component.number z ∷ xs) f m q = absurd (omega (arith, f.word))
first-parts (address n ∷ xs) f m q = absurd (omega (arith, f.word))

-- ---- the expression

module _ {σ : State} {i : ℕ} {x : List ℕ} (b : i < limit.expressions) (l : ExprLent σ i x)
    (f : FirstWord (expr σ.store (nth E i))) where
  abbrev s : Store
  s = σ.store

  abbrev xs : List Component
  xs = expr s (nth E i)

  abbrev w : List ℕ
  w = chars (first (front_part s i))

  pub some_bytes : 0 < length x
  some_bytes = omega (arith, f.some, parts-least xs, ap length l.encoded.is)

  first_is : first (take 1 xs) ≡ component_in x
  first_is = rw (first-in l some_bytes) refl

  within : i < length s.exprs
  within = rw l.stands.fine.exprs_is b

  module _ {cs : List ℕ} (a : LentChars (component_in x) cs) where
    cs-is : cs ≡ w
    cs-is = a.is ∙ ap chars (sym first_is)

    parts : FirstParts xs 1 (1 + length cs) (length cs)
    parts = first-parts xs f (length cs) (ap length cs-is)

    pub droppable : PartsDroppable σ i 1 (1 + length cs) (length cs)
    droppable = record { index = b; first = parts }

    module _ {u : Until ℕ} {t : CharsTaken} (k : TookChars u cs t) where
      took : TookChars u w t
      took = subst (λ (y : List ℕ). TookChars u y t) cs-is k

      abbrev v : List ℕ
      v = take t.taken w

      long : length v ≡ t.taken
      long = omega (arith, length-take t.taken w, took.most)

      module _ (removes : Bool) where
        abbrev z : Store
        z = past (nth (reading removes) i) 1 s

        parts-off : components_held z + cond removes 1 0 ≡ components_held s
        parts-off = components-past s i 1 within parts removes

        chars-off : chars_held z + cond removes (length cs) 0 ≡ chars_held s
        chars-off = chars-past s i 1 within parts removes

        -- the word is freed
        abbrev room : Bool
        room = room_after s (cond removes 1 0) (cond removes (length cs) 0) t.taken t.taken

        room-is : room ≡ (leb (components_held z + t.taken) limit.components && leb (chars_held z + t.taken) limit.characters)
        room-is =
            rw (room-freed (components_held z) (components_held s) (cond removes 1 0) t.taken limit.components parts-off, room-freed (chars_held z) (chars_held s) (cond removes (length cs) 0) t.taken limit.characters chars-off) refl

        -- the limits
        pub fits-split : fits (split_up u removes i s) ≡ room
        unfolding split_up
        fits-split =
            let m : Limited z = limited-past s (fine-limited σ l.stands.fine) (nth (reading removes) i) 1 in
            let q : (i < length z.exprs) = rw m.exprs_is b in
            let o : length (map char v) ≡ t.taken = chars-count v ∙ long in
            let r : char_count (map char v) ≡ t.taken = chars-total v ∙ long in
            rw took.is
            (fits-minus_unless t.reached (into (nth (writing false) i) (map char v) z)
            ∙ fits-into-ok (nth (writing false) i) z q (map char v) m (chars-ok v)
            ∙ ap (λ (y : ℕ). leb (components_held z + y) limit.components && leb (chars_held z + char_count (map char v)) limit.characters) o
            ∙ ap (λ (y : ℕ). leb (components_held z + t.taken) limit.components && leb (chars_held z + y) limit.characters) r
            ∙ sym room-is)

        module _ {o o' : List ℕ} {m : ℕ} (y : Written o (components_bytes (map char (take t.taken cs))) o' m) where
          encoded : Encoded (take m o') (map char v)
          encoded = record { is = written_is y ∙ ap (λ (c : List ℕ). components_bytes (map char (take t.taken c))) cs-is; all_ok = chars-ok v }

          new_is : components_in (take m o') ≡ map char v
          new_is = components-of encoded

          pub writable : room ≡ true → {σ' : State}
              → HoldsState σ' (on_store (past (nth (reading removes) i) 1) σ) → PartsWritable σ' i (take m o') t.taken t.taken
          unfolding on_store
          writable r g =
              let d = and_parts (leb (components_held z + t.taken) limit.components) (leb (chars_held z + t.taken) limit.characters) (sym room-is ∙ r) in
              record {
                index = b;
                whole = whole-components encoded;
                count = rw new_is (sym long ∙ sym (chars-count v));
                chars_is = rw new_is (sym long ∙ sym (chars-total v));
                components_room = rw g.is (leb-true (components_held z + t.taken) limit.components d.0);
                chars_room = rw g.is (leb-true (chars_held z + t.taken) limit.characters d.1);
              }

          pub split_done : {σ' : State}
              → HoldsState σ' (on_store (λ c. minus_unless t.reached (into (nth (writing false) i) (components_in (take m o')) (past (nth (reading removes) i) 1 c))) σ)
              → HoldsState σ' (on_store (split_up u removes i) σ)
          unfolding on_store split_up
          split_done g = rw (took.is, ← new_is) g
