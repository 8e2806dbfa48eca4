-- Runs written behind one another are a frame's line.
use mathlib.Core.Path.{◌≡◌, refl, sym, ap, ◌∙◌}
use mathlib.Core.List.{List, [], ◌∷◌, ◌++◌, append_assoc}
use Prim.Native.Nat.{ℕ, ◌+◌, ◌*◌, ◌-◌, ◌/◌, ◌%◌, ◌≤◌, ◌<◌}
use native.Mathlib.Omega.{arith}
use lib.ListN.{length, set, length-append}
use Rattle.cells.proofs.Laws.{pasted-pasted, length-pasted}
use Rattle.cells.specs.Cells.{pasted}
use Rattle.hexadecimal.specs.Below.Hexadecimal.{two_digits, hexadecimal, line}
use Rattle.hexadecimal.specs.Below.Frames.{framed, sum, check, front_bytes, frame_bytes, frame_line}
use Rattle.hexadecimal.specs.Below.Saved.{file_contents}
use Rattle.layout.specs.Cells.{two}
use Rattle.lists.specs.ListLaws.{total-append}
use Rattle.hexadecimal.proofs.Laws.{length-hexadecimal, hexadecimal-append, hexadecimal-one, set-one}

-- a run behind the first k bytes
next : (d : List ℕ) (at k : ℕ) (s t d₁ d₂ : List ℕ) → d₁ ≡ pasted d at s → length s ≡ k → at + (k + length t) ≤ length d → d₂ ≡ pasted d₁ (at + k) t → d₂ ≡ pasted d at (s ++ t)
next d at k s t d₁ d₂ e l h f =
    let q : at + k ≡ at + length s = omega (arith, l) in
    f ∙ ap (λ (x : List ℕ). pasted x (at + k) t) e ∙ ap (λ (n : ℕ). pasted (pasted d at s) n t) q ∙ pasted-pasted d at s t (omega (arith, l))

pub front-put : (d : List ℕ) (at a b c e : ℕ) (d₁ d₂ d₃ d₄ : List ℕ) → at + 8 ≤ length d → d₁ ≡ pasted d at (two_digits a) → d₂ ≡ pasted d₁ (at + 2) (two_digits b)
    → d₃ ≡ pasted d₂ (at + 4) (two_digits c) → d₄ ≡ pasted d₃ (at + 6) (two_digits e) → d₄ ≡ pasted d at (hexadecimal (a ∷ b ∷ c ∷ e ∷ []))
unfolding hexadecimal
front-put d at a b c e d₁ d₂ d₃ d₄ h e₁ e₂ e₃ e₄ =
    let f₂ = next d at 2 (two_digits a) (two_digits b) d₁ d₂ e₁ refl (omega arith) e₂ in
    let f₃ = next d at 4 (two_digits a ++ two_digits b) (two_digits c) d₂ d₃ f₂ refl (omega arith) e₃ in
    next d at 6 (two_digits a ++ two_digits b ++ two_digits c) (two_digits e) d₃ d₄ f₃ refl (omega arith) e₄

-- the byte that makes the sum a multiple of 256
check-by : (k i h w c s : ℕ) → s ≡ ((k + (i + (h + w))) % 256 + c) % 256 → (256 - s) % 256 ≡ (256 - (k + (i + (h + (w + c)))) % 256) % 256
check-by k i h w c s e =
    let q : s ≡ (k + (i + (h + (w + c)))) % 256 = e ∙ omega arith in
    ap (λ (x : ℕ). (256 - x) % 256) q

module _ (d : List ℕ) (at k i : ℕ) (c : List ℕ) (room : at + (11 + 2 * length c) ≤ length d) where
  abbrev n : ℕ
  n = length c

  abbrev front : List ℕ
  front = k ∷ i ∷ n / 256 ∷ n % 256 ∷ []

  abbrev x : ℕ
  x = check (front ++ c)

  line_is : (hexadecimal front ++ hexadecimal c ++ two_digits x) ++ (10 ∷ []) ≡ frame_line (framed k i c)
  unfolding frame_bytes line
  line_is =
      let a : hexadecimal ((front ++ c) ++ (x ∷ [])) ≡ hexadecimal front ++ hexadecimal c ++ two_digits x =
      hexadecimal-append (front ++ c) (x ∷ [])
      ∙ (let p = hexadecimal-append front c in let q = hexadecimal-one x in λ j. p j ++ q j) in
      ap (λ (t : List ℕ). t ++ (10 ∷ [])) (sym a)

  pub frame-put : (s : ℕ) (d₁ d₂ d₃ : List ℕ) → s ≡ ((k + (i + (n / 256 + n % 256))) % 256 + sum c) % 256 → d₁ ≡ pasted d at (hexadecimal front)
      → d₂ ≡ pasted d₁ (at + 8) (hexadecimal c) → d₃ ≡ pasted d₂ (at + (8 + 2 * n)) (two_digits ((256 - s) % 256) ++ (10 ∷ []))
      → d₃ ≡ pasted d at (frame_line (framed k i c))
  frame-put s d₁ d₂ d₃ e e₁ e₂ e₃ =
      let l₁ : length (hexadecimal front) ≡ 8 = length-hexadecimal front in
      let lc : length (hexadecimal c) ≡ 2 * n = length-hexadecimal c in
      let l₂ : length (hexadecimal front ++ hexadecimal c) ≡ 8 + 2 * n = simp length-append (omega arith) in
      let xe : (256 - s) % 256 ≡ x = check-by k i (n / 256) (n % 256) (sum c) s e in
      let f₂ = next d at 8 (hexadecimal front) (hexadecimal c) d₁ d₂ e₁ l₁ (omega arith) e₂ in
      next d at (8 + 2 * n) (hexadecimal front ++ hexadecimal c) (two_digits x ++ (10 ∷ [])) d₂ d₃ f₂ l₂ (omega arith)
      (e₃ ∙ ap (λ (y : ℕ). pasted d₂ (at + (8 + 2 * n)) (two_digits y ++ (10 ∷ []))) xe)
      ∙ ap (pasted d at) (sym (append_assoc (hexadecimal front ++ hexadecimal c) (two_digits x) (10 ∷ [])) ∙ line_is)

-- ---- a file's

pub end-put : (d : List ℕ) (at y : ℕ) (d₁ : List ℕ) → at + 3 ≤ length d → d₁ ≡ pasted d at (two_digits y) → set d₁ (at + 2) 10 ≡ pasted d at (two_digits y ++ (10 ∷ []))
end-put d at y d₁ h e =
    let long : length d₁ ≡ length d = ap length e ∙ length-pasted d at (two_digits y) (omega arith) in
    next d at 2 (two_digits y) (10 ∷ []) d₁ (set d₁ (at + 2) 10) e refl (omega arith) (set-one d₁ (at + 2) 10 (omega arith))

pub lengths-put : (d : List ℕ) (at a b c e f g : ℕ) (d₁ d₂ d₃ : List ℕ) → at + 12 ≤ length d → d₁ ≡ pasted d at (hexadecimal (a ∷ b ∷ c ∷ e ∷ []))
    → d₂ ≡ pasted d₁ (at + 8) (two_digits f) → d₃ ≡ pasted d₂ (at + 10) (two_digits g) → d₃ ≡ pasted d at (hexadecimal (a ∷ b ∷ c ∷ e ∷ f ∷ g ∷ []))
unfolding hexadecimal
lengths-put d at a b c e f g d₁ d₂ d₃ h e₁ e₂ e₃ =
    let s = hexadecimal (a ∷ b ∷ c ∷ e ∷ []) in
    let f₂ = next d at 8 s (two_digits f) d₁ d₂ e₁ refl (omega arith) e₂ in
    next d at 10 (s ++ two_digits f) (two_digits g) d₂ d₃ f₂ refl (omega arith) e₃

some-filled : (b a : List ℕ) → 0 < length b + length a → file_contents b a ≡ two (length b) ++ (b ++ a)
unfolding file_contents
some-filled [] [] h = absurd (omega arith)
some-filled [] (y ∷ a) h = refl
some-filled (x ∷ b) a h = refl

sum_by : (f s t b a : ℕ) → s ≡ (f % 256 + b) % 256 → t ≡ (s + a) % 256 → t ≡ (f + (b + a)) % 256
sum_by f s t b a e g = g ∙ rw e (omega arith)

module _ (d : List ℕ) (at i : ℕ) (b a : List ℕ) (room : at + (15 + 2 * (length b + length a)) ≤ length d) (some : 0 < length b + length a) where
  abbrev k : ℕ
  k = length b

  abbrev m : ℕ
  m = 2 + (length b + length a)

  abbrev six : List ℕ
  six = 3 ∷ i ∷ m / 256 ∷ m % 256 ∷ k % 256 ∷ k / 256 ∷ []

  abbrev c : List ℕ
  c = two k ++ (b ++ a)

  length-c : length c ≡ m
  length-c = simp length-append (omega arith)

  front_is : front_bytes (framed 3 i c) ≡ six ++ (b ++ a)
  front_is = ap (λ (n : ℕ). 3 ∷ i ∷ n / 256 ∷ n % 256 ∷ c) length-c

  abbrev z : ℕ
  z = check (six ++ (b ++ a))

  file-line : (hexadecimal six ++ hexadecimal b ++ hexadecimal a) ++ (two_digits z ++ (10 ∷ [])) ≡ frame_line (framed 3 i (file_contents b a))
  unfolding frame_bytes line
  file-line =
      let p : hexadecimal ((six ++ (b ++ a)) ++ (z ∷ [])) ≡ hexadecimal six ++ hexadecimal b ++ hexadecimal a ++ two_digits z =
      hexadecimal-append (six ++ (b ++ a)) (z ∷ [])
      ∙ (let u = hexadecimal-append six (b ++ a) ∙ ap (λ (t : List ℕ). hexadecimal six ++ t) (hexadecimal-append b a) ∙ sym (append_assoc (hexadecimal six) (hexadecimal b) (hexadecimal a)) in
      let v = hexadecimal-one z in
      λ j. u j ++ v j) in
      let q : frame_line (framed 3 i c) ≡ hexadecimal ((six ++ (b ++ a)) ++ (z ∷ [])) ++ (10 ∷ []) = ap (λ (t : List ℕ). hexadecimal (t ++ (check t ∷ [])) ++ (10 ∷ [])) front_is in
      sym (append_assoc (hexadecimal six ++ hexadecimal b ++ hexadecimal a) (two_digits z) (10 ∷ []))
      ∙ ap (λ (t : List ℕ). t ++ (10 ∷ [])) (sym p) ∙ sym q ∙ ap (λ (t : List ℕ). frame_line (framed 3 i t)) (sym (some-filled b a some))

  pub file-put : (s t : ℕ) (d₁ d₂ d₃ d₄ : List ℕ) → s ≡ ((3 + (i + (m / 256 + (m % 256 + (k % 256 + k / 256))))) % 256 + sum b) % 256 → t ≡ (s + sum a) % 256
      → d₁ ≡ pasted d at (hexadecimal six) → d₂ ≡ pasted d₁ (at + 12) (hexadecimal b) → d₃ ≡ pasted d₂ (at + (12 + 2 * k)) (hexadecimal a)
      → d₄ ≡ pasted d₃ (at + (8 + 2 * m)) (two_digits ((256 - t) % 256) ++ (10 ∷ [])) → d₄ ≡ pasted d at (frame_line (framed 3 i (file_contents b a)))
  file-put s t d₁ d₂ d₃ d₄ es et e₁ e₂ e₃ e₄ =
      let l₁ : length (hexadecimal six) ≡ 12 = length-hexadecimal six in
      let lb : length (hexadecimal b) ≡ 2 * length b = length-hexadecimal b in
      let la : length (hexadecimal a) ≡ 2 * length a = length-hexadecimal a in
      let l₂ : length (hexadecimal six ++ hexadecimal b) ≡ 12 + 2 * k = simp length-append (omega arith) in
      let l₃ : length (hexadecimal six ++ hexadecimal b ++ hexadecimal a) ≡ 8 + 2 * m = simp length-append (omega arith) in
      let total : t ≡ ((3 + (i + (m / 256 + (m % 256 + (k % 256 + k / 256))))) + (sum b + sum a)) % 256 =
      sum_by (3 + (i + (m / 256 + (m % 256 + (k % 256 + k / 256))))) s t (sum b) (sum a) es et in
      let all : sum (six ++ (b ++ a)) ≡ (3 + (i + (m / 256 + (m % 256 + (k % 256 + k / 256))))) + (sum b + sum a) = omega (arith, total-append (λ x. x) b a) in
      let ze : (256 - t) % 256 ≡ z = ap (λ (x : ℕ). (256 - x) % 256) (total ∙ ap (λ (x : ℕ). x % 256) (sym all)) in
      let f₂ = next d at 12 (hexadecimal six) (hexadecimal b) d₁ d₂ e₁ l₁ (omega arith) e₂ in
      let f₃ = next d at (12 + 2 * k) (hexadecimal six ++ hexadecimal b) (hexadecimal a) d₂ d₃ f₂ l₂ (omega arith) e₃ in
      next d at (8 + 2 * m) (hexadecimal six ++ hexadecimal b ++ hexadecimal a) (two_digits z ++ (10 ∷ [])) d₃ d₄ f₃ l₃ (omega arith)
      (e₄ ∙ ap (λ (y : ℕ). pasted d₃ (at + (8 + 2 * m)) (two_digits y ++ (10 ∷ []))) ze)
      ∙ ap (pasted d at) file-line
