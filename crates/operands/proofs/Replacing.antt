-- Components in the place of the first.
use mathlib.Core.Path.{◌≡◌, refl, sym, ap, ◌∙◌}
use mathlib.Core.Bool.{Bool, true, false, cond, ◌&&◌}
use mathlib.Core.List.{List, [], ◌∷◌}
use Prim.Native.Nat.{ℕ, ◌+◌, ◌<◌}
use native.Mathlib.Omega.{arith}
use lib.Dec.{T, leb}
use lib.ListN.{length, take}
use lib.IntN.{ℤ}
use borrow.Author.Tests.{leb-true}
use Rattle.std.proofs.lemmas.Bool.{and_parts}
use Rattle.language.specs.Limits as limit
use Rattle.language.specs.Values.{Component, Store, State, kind}
use Rattle.language.specs.Values.Component.{word, address}
use Rattle.machine.specs.Arguments.{first, of_kinds}
use Rattle.machine.specs.Changes.{with_exprs, put_expr, placed, into, front, past_by, past, used_by, used, fits}
use Rattle.layout.proofs.ComponentLaws.{components_bytes-one}
use Rattle.layout.specs.Components.{component_bytes, components_in}
use Rattle.layout.specs.Memory.{components_held, chars_held}
use Rattle.state.specs.Working.{HoldsState, Stands, on_store, nth, reading, writing, char_count}
use Rattle.state.specs.Blocks.{FirstParts, PartsWritable}
use Rattle.state.specs.Limited.{Limited}
use Rattle.state.proofs.Fits.{fine-limited, fits-into-ok}
use Rattle.state.proofs.Freed.{limited-past, components-past, chars-past}
use Rattle.components.specs.declared.Amount.{Amount}
use Rattle.instructions.specs.Does.{Tried, stop_of, room_after}
use Rattle.instructions.proofs.Room.{room-freed}
use Rattle.instructions.proofs.Answers.{tried-full, tried-done}
use Rattle.operands.specs.Operands.{replaced, Replaceable}
use Rattle.operands.proofs.Reading.{wordless, left-kind}

replaced-is : (removes : Bool) (i : ℕ) (ys : List Component) (s : Store)
    → replaced removes i ys s ≡ into (nth (writing false) i) ys (past (nth (reading removes) i) 1 s)
unfolding replaced front used used_by into placed put_expr with_exprs past past_by
replaced-is true i ys s = refl
replaced-is false i ys s = refl

-- no address is given
pub replaced-last : (removes : Bool) (i : ℕ) (ys : List Component) (s : Store) → (replaced removes i ys s).last ≡ s.last
unfolding replaced front used used_by put_expr with_exprs past_by
replaced-last true i ys s = refl
replaced-last false i ys s = refl

-- a component in front of an expression that is no word
short-first : (es : List Component) → (kind (first (take 1 es)) ≡ 0 → ⊥) → FirstParts es 1 5 0
unfolding component_bytes
short-first [] k = absurd (k refl)
short-first (word w ∷ es) k = absurd (k refl)
short-first (Component.number z ∷ es) k = record { most = omega arith; bytes_is = rw (components_bytes-one (Component.number z)) refl; chars_is = refl }
short-first (address n ∷ es) k = record { most = omega arith; bytes_is = rw (components_bytes-one (address n)) refl; chars_is = refl }

-- the number in front of an expression
pub number-first : (es : List Component) (z : ℤ) → take 1 es ≡ Component.number z ∷ [] → FirstParts es 1 5 0
number-first es z e = short-first es (λ k. omega (arith, sym (ap (λ (xs : List Component). kind (first xs)) e) ∙ k))

-- the first of two operands in front of an expression, which is no word
pub left-first : (ks : List (ℕ × ℕ)) → T (wordless ks) → (es ys : List Component) → stop_of (of_kinds ks (take 1 es) ys) ≡ 0 → FirstParts es 1 5 0
left-first ks h es ys z = short-first es (left-kind ks (take 1 es) ys h z)

module _ {σ : State} (st : Stands σ) {i : ℕ} {f : Amount} {new : List ℕ} {a : Amount} (h : Replaceable σ i f new a)
    (removes : Bool) where
  abbrev s : Store
  s = σ.store

  abbrev t : Store
  t = past (nth (reading removes) i) 1 s

  abbrev ys : List Component
  ys = components_in new

  inside : i < length s.exprs
  inside = rw st.fine.exprs_is h.index

  left : Limited t
  left = limited-past s (fine-limited σ st.fine) (nth (reading removes) i) 1

  parts-left : components_held t + cond removes 1 0 ≡ components_held s
  parts-left = components-past s i 1 inside h.first removes

  chars_left : chars_held t + cond removes f.chars 0 ≡ chars_held s
  chars_left = chars-past s i 1 inside h.first removes

  fits_replaced : fits (replaced removes i ys s) ≡ (leb (components_held t + length ys) limit.components && leb (chars_held t + char_count ys) limit.characters)
  fits_replaced =
      rw (replaced-is removes i ys s) (fits-into-ok (nth (writing false) i) t (rw left.exprs_is h.index) ys left h.whole.all_ok)

  -- what is freed
  module _ {r : Amount} (q : r ≡ record { parts = cond removes f.parts 0; bytes = cond removes f.bytes 0; chars = cond removes f.chars 0 }) where
    parts-freed : components_held t + r.parts ≡ components_held s
    parts-freed = rw (q, h.single) parts-left

    chars-freed : chars_held t + r.chars ≡ chars_held s
    chars-freed = rw q chars_left

    pub fits_after : fits (replaced removes i ys s) ≡ room_after s r.parts r.chars a.parts a.chars
    fits_after =
        fits_replaced
        ∙ rw (room-freed (components_held t) (components_held s) r.parts a.parts limit.components parts-freed, room-freed (chars_held t) (chars_held s) r.chars a.chars limit.characters chars-freed, ← h.count, ← h.chars_is) refl

    pub full-after : {b : Bool} → b ≡ room_after s r.parts r.chars a.parts a.chars → b ≡ false → Tried σ 59 σ true (replaced removes i ys s)
    full-after e z = tried-full st (replaced removes i ys s) refl (fits_after ∙ sym e ∙ z)

    pub writable : {b : Bool} → b ≡ room_after s r.parts r.chars a.parts a.chars → b ≡ true → {σ' : State}
        → HoldsState σ' (on_store (past (nth (reading removes) i) f.parts) σ) → PartsWritable σ' i new a.parts a.chars
    unfolding on_store
    writable e z g =
        let w = and_parts (leb (components_held s + a.parts) (limit.components + r.parts)) (leb (chars_held s + a.chars) (limit.characters + r.chars)) (sym e ∙ z) in
        let p = leb-true (components_held s + a.parts) (limit.components + r.parts) w.0 in
        let k = leb-true (chars_held s + a.chars) (limit.characters + r.chars) w.1 in
        record {
          index = h.index;
          whole = h.whole;
          count = h.count;
          chars_is = h.chars_is;
          components_room = rw (g.is, h.single) (omega (arith, p, parts-freed));
          chars_room = rw (g.is, h.single) (omega (arith, k, chars-freed));
        }

  pub replaced-done : {σ' : State} → HoldsState σ' (on_store (λ z. into (nth (writing false) i) ys (past (nth (reading removes) i) f.parts z)) σ)
      → Tried σ 0 σ' true (replaced removes i ys s)
  unfolding on_store
  replaced-done g = tried-done st (replaced removes i ys s) refl (rw (replaced-is removes i ys s) (rw h.single at g))
