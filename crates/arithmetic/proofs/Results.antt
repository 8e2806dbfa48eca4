-- Results as components, in the place of the first.
use mathlib.Core.Path.{◌≡◌, refl, sym, ap, ◌∙◌, subst}
use mathlib.Core.Bool.{true}
use mathlib.Core.List.{List, [], ◌∷◌, ◌++◌, append-nil, append_assoc}
use Prim.Native.Nat.{ℕ, ◌+◌, ◌≤◌}
use native.Mathlib.Omega.{arith}
use lib.ListN.{length, take, drop, length-append}
use lib.Seq.{take_at}
use lib.IntN.{ℤ}
use Rattle.layout.specs.CodeLaws.{uncode-most}
use Rattle.language.specs.Values.{Component, State}
use Rattle.layout.specs.Bounds.{Encoded}
use Rattle.layout.specs.Cells.{uncode}
use Rattle.layout.proofs.ComponentLaws.{components-of, whole-components}
use Rattle.layout.specs.Components.{component_bytes, components_bytes, components_in}
use Rattle.cells.specs.Cells.{pasted}
use Rattle.cells.proofs.Laws.{pasted-front}
use Rattle.state.specs.Working.{char_count}
use Rattle.instructions.specs.Does.{Tried}
use Rattle.operands.specs.Operands.{replaced, Replaceable}
use Rattle.operands.proofs.Held.{number-held}
use Rattle.arithmetic.specs.Arithmetic.{Numbered, OneResult, TwoResults}

-- ---- in bytes

number-long : (z : ℤ) → length (component_bytes (Component.number z)) ≡ 5
unfolding component_bytes
number-long z = refl

two-encoded : (c d : ℕ) → c ≤ 16777214 → d ≤ 16777214
    → Encoded (component_bytes (Component.number (uncode c)) ++ component_bytes (Component.number (uncode d))) (Component.number (uncode c) ∷ Component.number (uncode d) ∷ [])
unfolding components_bytes
two-encoded c d h k =
    record {
      is = ap (λ (l : List ℕ). component_bytes (Component.number (uncode c)) ++ l) (sym (append-nil (component_bytes (Component.number (uncode d)))));
      all_ok = (uncode-most c h, (uncode-most d k, tt));
    }

-- a second part behind the first
pasted-two : (d v w : List ℕ) {d' d'' : List ℕ} → length v ≡ 5 → length w ≡ 5 → d' ≡ pasted d 0 v → d'' ≡ pasted d' 5 w → take 10 d'' ≡ v ++ w
pasted-two d v w {d'} {d''} a b p q =
    let f : take 5 d' ≡ v = rw p (pasted-front d v 5 a) in
    let g : d'' ≡ (v ++ w) ++ drop (5 + length w) d' = q ∙ ap (λ (l : List ℕ). l ++ (w ++ drop (5 + length w) d')) f ∙ sym (append_assoc v w (drop (5 + length w) d')) in
    rw g (take_at (v ++ w) (drop (5 + length w) d') 10 (simp length-append (omega (arith, a, b))))

module _ {new : List ℕ} {xs : List Component} (c : Encoded new xs) where
  replaceable : {σ : State} {i k b : ℕ} → Numbered σ i → k ≡ length xs → k ≤ 2 → 0 ≡ char_count xs
      → Replaceable σ i (record { parts = 1; bytes = 5; chars = 0 }) new (record { parts = k; bytes = b; chars = 0 })
  replaceable h q l r =
      record {
        index = h.index;
        single = refl;
        first = h.first;
        letters_most = omega arith;
        whole = whole-components c;
        count = rw (components-of c) q;
        chars_is = rw (components-of c) r;
        parts_most = omega (arith, l);
        chars_most = omega arith;
      }

  -- what is encoded is what is put
  placed : (σ : State) (i : ℕ) {k : ℕ} {σ' : State} → Tried σ k σ' true (replaced true i (components_in new) σ.store) → Tried σ k σ' true (replaced true i xs σ.store)
  placed σ i {k} {σ'} w = subst (λ (ys : List Component). Tried σ k σ' true (replaced true i ys σ.store)) (components-of c) w

-- ---- one result

module _ {c : ℕ} (d : List ℕ) {d' : List ℕ} (q : d' ≡ pasted d 0 (component_bytes (Component.number (uncode c)))) {σ : State} {i : ℕ} (h : OneResult σ i c) where
  held_one : Encoded (take 5 d') (Component.number (uncode c) ∷ [])
  held_one = number-held c h.most d q

  pub one-replaceable : Replaceable σ i (record { parts = 1; bytes = 5; chars = 0 }) (take 5 d') (record { parts = 1; bytes = 5; chars = 0 })
  one-replaceable = replaceable held_one h.numbered refl (omega arith) refl

  pub one-tried : {k : ℕ} {σ' : State} → Tried σ k σ' true (replaced true i (components_in (take 5 d')) σ.store)
      → Tried σ k σ' true (replaced true i (Component.number (uncode c) ∷ []) σ.store)
  one-tried = placed held_one σ i

-- ---- two results

module _ {a b : ℕ} (d : List ℕ) {d' d'' : List ℕ} (q : d' ≡ pasted d 0 (component_bytes (Component.number (uncode a))))
    (r : d'' ≡ pasted d' 5 (component_bytes (Component.number (uncode b)))) {σ : State} {i : ℕ} (h : TwoResults σ i a b) where
  held_two : Encoded (take 10 d'') (Component.number (uncode a) ∷ Component.number (uncode b) ∷ [])
  held_two =
      subst (λ (l : List ℕ). Encoded l (Component.number (uncode a) ∷ Component.number (uncode b) ∷ []))
      (sym (pasted-two d (component_bytes (Component.number (uncode a))) (component_bytes (Component.number (uncode b))) (number-long (uncode a)) (number-long (uncode b)) q r))
      (two-encoded a b h.left_most h.right_most)

  pub two-replaceable : Replaceable σ i (record { parts = 1; bytes = 5; chars = 0 }) (take 10 d'') (record { parts = 2; bytes = 10; chars = 0 })
  two-replaceable = replaceable held_two h.numbered refl (omega arith) refl

  pub two-tried : {k : ℕ} {σ' : State} → Tried σ k σ' true (replaced true i (components_in (take 10 d'')) σ.store)
      → Tried σ k σ' true (replaced true i (Component.number (uncode a) ∷ Component.number (uncode b) ∷ []) σ.store)
  two-tried = placed held_two σ i
