-- One word of characters: its bytes, and whether it has room.
use mathlib.Core.Path.{◌≡◌, refl, sym, ap, ◌∙◌}
use mathlib.Core.Bool.{Bool, true, false, cond, ◌&&◌, ◌||◌, and-true, and_comm}
use mathlib.Core.List.{List, [], ◌∷◌}
use Prim.Native.Nat.{ℕ, zero, suc, ◌+◌, ◌≤◌}
use native.Mathlib.Omega.{arith}
use lib.Dec.{leb}
use lib.ListN.{length, take}
use borrow.Author.Tests.{le-leb, leb-true}
use Rattle.std.proofs.lemmas.Bool.{and_parts}
use Rattle.lists.specs.Lists.{all}
use Rattle.language.specs.Limits as limit
use Rattle.language.specs.Values.Component.{word}
use Rattle.layout.specs.Bounds.{Each, Ok, Encoded}
use Rattle.layout.proofs.ComponentLaws.{components_bytes-one}
use Rattle.layout.specs.Components.{component_bytes, components_bytes}
use Rattle.cells.specs.Cells.{pasted}
use Rattle.cells.proofs.Laws.{pasted-front, pasted-none}
use Rattle.components.specs.Parts.{Written}
use Rattle.state.specs.Working.{char_count}
use Rattle.state.specs.Limited.{short_word}
use Rattle.joining.specs.Joining.{word_if, some}

pub some-most : (k : ℕ) → some k ≤ 1
some-most zero = omega arith
some-most (suc k) = omega arith

-- ---- how many components and characters

pub word_count : (w : List ℕ) → length (word_if w) ≡ some (length w)
word_count [] = refl
word_count (x ∷ w) = refl

pub word-chars : (w : List ℕ) → char_count (word_if w) ≡ length w
word-chars [] = refl
word-chars (x ∷ w) = omega arith

pub word_ok : (w : List ℕ) → length w ≤ limit.word → Each Ok (word_if w)
word_ok [] h = tt
word_ok (x ∷ w) h = ((omega arith, h), tt)

-- ---- its bytes

pub made_none : (d w : List ℕ) → length w ≡ 0 → Written d (components_bytes (word_if w)) d 0
unfolding components_bytes
made_none d [] q = record { is = pasted-none d 0; count = refl; fits = omega arith }
made_none d (x ∷ w) q = absurd (omega (arith, q))

pub made : (d w : List ℕ) {d' : List ℕ} → (length w ≡ 0 → ⊥) → 256 ≤ length d → length w ≤ limit.word → d' ≡ pasted d 0 (component_bytes (word w))
    → Written d (components_bytes (word_if w)) d' (1 + length w)
unfolding component_bytes
made d [] z a b q = absurd (z refl)
made d (x ∷ w) z a b q =
    let e : component_bytes (word (x ∷ w)) ≡ components_bytes (word (x ∷ w) ∷ []) = sym (components_bytes-one (word (x ∷ w))) in
    record { is = q ∙ ap (λ (t : List ℕ). pasted d 0 t) e; count = omega (arith, ap length e); fits = omega arith }

module _ {d l d' : List ℕ} {m : ℕ} (h : Written d l d' m) where
  pub written_is : take m d' ≡ l
  written_is = rw h.is (pasted-front d l m (sym h.count))

pub made-encoded : (w : List ℕ) {d d' : List ℕ} {m : ℕ} → Written d (components_bytes (word_if w)) d' m → length w ≤ limit.word → Encoded (take m d') (word_if w)
made-encoded w h b = record { is = written_is h; all_ok = word_ok w b }

-- ---- its room: c and k components and characters are held, of which those of the word may be taken away before

word-short : (w : List ℕ) → all short_word (word_if w) ≡ leb (length w) limit.word
word-short [] = refl
word-short (x ∷ w) = and-true (leb (length (x ∷ w)) limit.word)

module _ (w : List ℕ) (parts c k c' k' : ℕ) (a : c ≤ limit.components) (b : k ≤ limit.characters) (few : some (length w) ≤ parts) where
  pub room_of : (removes : Bool) → c' + cond removes parts 0 ≡ c → k' + cond removes (length w) 0 ≡ k
      → (leb (c' + length (word_if w)) limit.components && leb (k' + char_count (word_if w)) limit.characters && all short_word (word_if w))
      ≡ (leb (length w) limit.word && (removes || (leb (c + some (length w)) limit.components && leb (k + length w) limit.characters)))
  room_of true x y =
      rw (
        word_count w,
        word-chars w,
        word-short w,
        le-leb (c' + some (length w)) limit.components (omega (arith, x, a, few)),
        le-leb (k' + length w) limit.characters (omega (arith, y, b)),
      ) (sym (and-true (leb (length w) limit.word)))
  room_of false x y =
      let p : c' ≡ c = omega (arith, x) in
      let q : k' ≡ k = omega (arith, y) in
      rw (word_count w, word-chars w, word-short w, p, q)
      (and_comm (leb (c + some (length w)) limit.components && leb (k + length w) limit.characters) (leb (length w) limit.word))

  pub room-have : (removes : Bool) → c' + cond removes parts 0 ≡ c → k' + cond removes (length w) 0 ≡ k
      → (leb (length w) limit.word && (removes || (leb (c + some (length w)) limit.components && leb (k + length w) limit.characters))) ≡ true
      → (length w ≤ limit.word) × (c' + some (length w) ≤ limit.components) × (k' + length w ≤ limit.characters)
  room-have true x y q =
      (leb-true (length w) limit.word (and_parts (leb (length w) limit.word) true q).0, omega (arith, x, a, few), omega (arith, y, b))
  room-have false x y q =
      let q₁ = and_parts (leb (length w) limit.word) (leb (c + some (length w)) limit.components && leb (k + length w) limit.characters) q in
      let q₂ = and_parts (leb (c + some (length w)) limit.components) (leb (k + length w) limit.characters) q₁.1 in
      let f = leb-true (c + some (length w)) limit.components q₂.0 in
      let g = leb-true (k + length w) limit.characters q₂.1 in
      (leb-true (length w) limit.word q₁.0, omega (arith, x, f), omega (arith, y, g))
