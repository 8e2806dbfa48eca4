-- What a test takes of an expression, in bytes: taken away, copied beside, turned round.
use mathlib.Core.Path.{◌≡◌, refl, sym, ap, ◌∙◌, subst}
use mathlib.Core.Bool.{Bool, true, false, cond, ◌&&◌}
use mathlib.Core.List.{List, [], ◌∷◌, reverse_aux}
use Prim.Native.Nat.{ℕ, ◌+◌, ◌≤◌, ◌<◌}
use native.Mathlib.Omega.{arith}
use lib.Dec.{leb}
use borrow.Author.Tests.{leb-true}
use lib.ListN.{length, take, length-append, length-take}
use Rattle.std.proofs.lemmas.Bool.{and_parts}
use Rattle.language.specs.Limits as limit
use Rattle.language.specs.Letters.Letter.{E}
use Rattle.language.specs.Values.{Component, Store, State, chars}
use Rattle.machine.specs.Arguments.{expr, Until}
use Rattle.machine.specs.Changes.{minus_unless, into, past, fits}
use Rattle.layout.specs.Bounds.{Each, Ok, Encoded}
use Rattle.layout.proofs.ComponentLaws.{component-some, components-of, whole-components}
use Rattle.layout.specs.Components.{components_bytes, components_in}
use Rattle.layout.specs.Memory.{components_held, chars_held}
use Rattle.cells.specs.Cells.{pasted}
use Rattle.cells.proofs.Laws.{pasted-front}
use Rattle.components.specs.Parts.{CopyRoom}
use Rattle.components.proofs.Walks.{cut}
use Rattle.matching.specs.Tests.{Took}
use Rattle.matching.specs.declared.Taken.{Taken}
use Rattle.state.specs.Working.{HoldsState, Stands, on_store, nth, reading, writing, turned, char_count}
use Rattle.state.specs.Blocks.{ExprLent, PartsDroppable, PartsWritable}
use Rattle.state.proofs.Sequences.{turned-length, turned-total, bytes-turned}
use Rattle.state.proofs.Fits.{fine-limited, fits-minus_unless, fits-into-ok}
use Rattle.state.proofs.Freed.{limited-past, components-past, chars-past}
use Rattle.state.specs.Limited.{Limited}
use Rattle.instructions.specs.Does.{More, room_after}
use Rattle.instructions.proofs.Room.{room-freed}
use Rattle.moves.specs.Moves.{sent, cut_off}

-- ---- turned round

each-turned-to : (xs ys : List Component) → Each Ok xs → Each Ok ys → Each Ok (reverse_aux xs ys)
each-turned-to [] ys h k = k
each-turned-to (x ∷ xs) ys h k = each-turned-to xs (x ∷ ys) h.1 (h.0, k)

each-turned : (b : Bool) (xs : List Component) → Each Ok xs → Each Ok (turned b xs)
each-turned true xs h = each-turned-to xs [] h tt
each-turned false xs h = h

pub parts-least : (xs : List Component) → length xs ≤ length (components_bytes xs)
unfolding components_bytes
parts-least [] = omega arith
parts-least (x ∷ xs) = simp length-append (omega (arith, component-some x, parts-least xs))

-- the bytes beside are those of the components, turned round or not
pub held-turned : (d : List ℕ) {d' y : List ℕ} {zs : List Component} (b : Bool) (m : ℕ) → d' ≡ pasted d 0 (components_bytes (turned b (components_in y)))
    → Encoded y zs → m ≡ length (components_bytes zs) → Encoded (take m d') (turned b zs)
held-turned d {d'} {y} {zs} b m e c q =
    record {
      is = rw (e, components-of c) (pasted-front d (components_bytes (turned b zs)) m (bytes-turned b zs ∙ sym q));
      all_ok = each-turned b zs c.all_ok;
    }

-- ---- what is taken

module _ {σ : State} {i : ℕ} {x : List ℕ} {u : Until Component} {t : Taken} (h : Stands σ) (b : i < limit.expressions) (l : ExprLent σ i x)
    (k : Took u (components_in x) t) where
  abbrev s : Store
  s = σ.store

  abbrev xs : List Component
  xs = expr s (nth E i)

  pub took : Took u xs t
  took = subst (λ (ys : List Component). Took u ys t) l.is k

  bytes_inside : t.amount.bytes ≤ length x
  bytes_inside = omega (arith, took.bytes_most, ap length l.encoded.is)

  pub taken-part : Encoded (take t.amount.bytes x) (take t.amount.parts xs)
  taken-part = (cut l.encoded t.amount.parts t.amount.bytes took.bytes_is).front

  pub bytes-few : t.amount.bytes ≤ 32768
  bytes-few = omega (arith, bytes_inside, l.most)

  part-long : t.amount.bytes ≡ length (take t.amount.bytes x)
  part-long = simp length-take (omega (arith, bytes_inside))

  pub copy-room : (m : ℕ) → 32768 ≤ m → CopyRoom m (take t.amount.bytes x)
  copy-room m r = record { whole = whole-components taken-part; room = omega (arith, part-long, bytes-few) }

  pub more : More t.amount.parts t.amount.chars
  more =
      record {
        parts_most = omega (arith, took.parts_most, parts-least xs, ap length l.encoded.is, l.most);
        chars_most = omega (arith, took.chars_most, bytes_inside, l.most);
      }

  pub droppable : PartsDroppable σ i t.amount.parts t.amount.bytes t.amount.chars
  droppable =
      record {
        index = b;
        first = record { most = took.parts_most; bytes_is = took.bytes_is; chars_is = took.chars_is };
      }

  -- ---- written to expression j

  within : i < length s.exprs
  within = rw h.fine.exprs_is b

  module _ (removes : Bool) where
    abbrev z : Store
    z = past (nth (reading removes) i) t.amount.parts s

    -- whether it has room, where it is freed if it is removed
    abbrev pub room : Bool
    room = room_after s (cond removes t.amount.parts 0) (cond removes t.amount.chars 0) t.amount.parts t.amount.chars

    pub parts-off : components_held z + cond removes t.amount.parts 0 ≡ components_held s
    parts-off = components-past s i t.amount.parts within droppable.first removes

    pub chars-off : chars_held z + cond removes t.amount.chars 0 ≡ chars_held s
    chars-off = chars-past s i t.amount.parts within droppable.first removes

    module _ (j : ℕ) (d : j < limit.expressions) (reverses at_end : Bool) where
      abbrev ys : List Component
      ys = turned reverses (take t.amount.parts xs)

      count_is : t.amount.parts ≡ length ys
      count_is = rw (turned-length reverses (take t.amount.parts xs)) (simp length-take (omega (arith, took.parts_most)))

      chars-are : t.amount.chars ≡ char_count ys
      chars-are = took.chars_is ∙ sym (turned-total (λ y. length (chars y)) reverses (take t.amount.parts xs))

      -- the limits
      room-is : room ≡ (leb (components_held z + t.amount.parts) limit.components && leb (chars_held z + t.amount.chars) limit.characters)
      room-is =
          rw (
            room-freed (components_held z) (components_held s) (cond removes t.amount.parts 0) t.amount.parts limit.components parts-off,
            room-freed (chars_held z) (chars_held s) (cond removes t.amount.chars 0) t.amount.chars limit.characters chars-off,
          )
          refl

      pub fits-sent : fits (sent u removes i reverses at_end j s) ≡ room
      unfolding sent
      fits-sent =
          let m : Limited z = limited-past s (fine-limited σ h.fine) (nth (reading removes) i) t.amount.parts in
          let q : (j < length z.exprs) = rw m.exprs_is d in
          rw took.is
          (fits-minus_unless t.reached (into (nth (writing at_end) j) ys z)
          ∙ fits-into-ok (nth (writing at_end) j) z q ys m (each-turned reverses (take t.amount.parts xs) taken-part.all_ok)
          ∙ rw (← count_is, ← chars-are) (sym room-is))

      module _ {new : List ℕ} (c : Encoded new ys) where
        new_is : components_in new ≡ ys
        new_is = components-of c

        pub writable : room ≡ true → {σ' : State} → HoldsState σ' (on_store (past (nth (reading removes) i) t.amount.parts) σ)
            → PartsWritable σ' j new t.amount.parts t.amount.chars
        unfolding on_store
        writable r g =
            let w = and_parts (leb (components_held z + t.amount.parts) limit.components) (leb (chars_held z + t.amount.chars) limit.characters) (sym room-is ∙ r) in
            record {
              index = d;
              whole = whole-components c;
              count = rw new_is count_is;
              chars_is = rw new_is chars-are;
              components_room = rw g.is (leb-true (components_held z + t.amount.parts) limit.components w.0);
              chars_room = rw g.is (leb-true (chars_held z + t.amount.chars) limit.characters w.1);
            }

        -- what is held then
        pub sent-done : {σ' : State}
            → HoldsState σ' (on_store (λ y. minus_unless t.reached (into (nth (writing at_end) j) (components_in new) (past (nth (reading removes) i) t.amount.parts y))) σ)
            → HoldsState σ' (on_store (sent u removes i reverses at_end j) σ)
        unfolding on_store sent
        sent-done g = rw (took.is, ← new_is) g

  -- ---- taken away

  pub gone-off : {σ' : State} → HoldsState σ' (on_store (λ z. minus_unless t.reached (past (nth (reading true) i) t.amount.parts z)) σ)
      → HoldsState σ' (on_store (cut_off u i) σ)
  unfolding on_store cut_off
  gone-off g = rw took.is g
