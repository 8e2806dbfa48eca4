-- The last line of a text, looked for from its end.
use mathlib.Core.Path.{◌≡◌, ap, sym, ◌∙◌, subst}
use mathlib.Core.Logic.{◌≢◌}
use mathlib.Core.List.{List, [], ◌∷◌, ◌++◌}
use Prim.Native.Nat.{ℕ, zero, suc, ◌+◌, ◌-◌, ◌≤◌, ◌<◌}
use native.Mathlib.Omega.{arith}
use lib.ListN.{length, get_or, take, drop}
use lib.Seq.{length-take-le, take-take, drop-cons, split_at, take-suc, get_or-take}
use Rattle.std.proofs.Common.{All}
use Rattle.std.proofs.lemmas.List.{drop_all}
use Rattle.std.proofs.lemmas.List.Elements.{All-head, All-tail}
use Rattle.text_lines.specs.Lines.{lines}
use Rattle.shorten_calls.proofs.LineLaws.{lf-split, one_byte, one_more, no_lines}
use Rattle.shortening.specs.Trying.{Ending, LineStart}

-- from `at` on there is one line
pub record Scanned (s : List ℕ) (end at : ℕ) : Type 0 where
  pub below : at < end
  pub within : end ≤ length s
  pub one : lines (drop at (take end s)) ≡ drop at (take end s) ∷ []

module _ (s : List ℕ) (end : ℕ) where
  abbrev u : List ℕ
  u = take end s

  pub scan-begin : Ending s end → Scanned s end (end - 1)
  scan-begin h =
      let long : length u ≡ end = length-take-le end s h.within in
      let e : drop (end - 1) u ≡ get_or u (end - 1) 0 ∷ [] =
      drop-cons u (end - 1) 0 (omega (arith, long, h.some)) ∙ ap (λ (l : List ℕ). get_or u (end - 1) 0 ∷ l) (drop_all (suc (end - 1)) u (omega (arith, long))) in
      record { below = omega (arith, h.some); within = h.within; one = ap lines e ∙ one_byte (get_or u (end - 1) 0) ∙ ap (λ (l : List ℕ). l ∷ []) (sym e) }

  module _ {at : ℕ} (h : Scanned s end at) (some : 0 < at) where
    long : length u ≡ end
    long = length-take-le end s h.within

    before : suc (at - 1) ≡ at
    before = omega (arith, some)

    byte-same : get_or u (at - 1) 0 ≡ get_or s (at - 1) 0
    byte-same = get_or-take end s (at - 1) 0 (omega (arith, h.below))

    byte_next : drop (at - 1) u ≡ get_or s (at - 1) 0 ∷ drop at u
    byte_next =
        drop-cons u (at - 1) 0 (omega (arith, long, h.below))
        ∙ ap (λ (b : ℕ). b ∷ drop (suc (at - 1)) u) byte-same ∙ ap (λ (n : ℕ). get_or s (at - 1) 0 ∷ drop n u) before

    pub scan-more : get_or s (at - 1) 0 ≢ 10 → Scanned s end (at - 1)
    scan-more n = record {
      below = omega (arith, h.below);
      within = h.within;
      one = ap lines byte_next ∙ one_more (get_or s (at - 1) 0) (drop at u) n h.one ∙ ap (λ (l : List ℕ). l ∷ []) (sym byte_next);
    }

    pub scan-lf : get_or s (at - 1) 0 ≡ 10 → LineStart s end at
    scan-lf e =
        let v = take (at - 1) u in
        let whole : u ≡ v ++ (10 ∷ drop at u) =
        split_at u (at - 1) 0 (omega (arith, long, h.below))
        ∙ ap (λ (b : ℕ). v ++ (b ∷ drop (suc (at - 1)) u)) (byte-same ∙ e) ∙ ap (λ (n : ℕ). v ++ (10 ∷ drop n u)) before in
        let front : v ++ (10 ∷ []) ≡ take at s =
        ap (λ (b : ℕ). v ++ (b ∷ [])) (sym (byte-same ∙ e)) ∙ sym (take-suc u (at - 1) 0 (omega (arith, long, h.below)))
        ∙ ap (λ (n : ℕ). take n u) before ∙ take-take at end s (omega (arith, h.below)) in
        record {
          below = h.below;
          is = ap lines whole ∙ lf-split v (drop at u) ∙ ap (λ (l : List ℕ). lines l ++ lines (drop at u)) front
              ∙ ap (λ (ls : List (List ℕ)). lines (take at s) ++ ls) h.one;
        }

  -- down to the place `at`, where no byte from there on but the last is a line feed
  down : Ending s end → (at : ℕ) → ((k : ℕ) → at ≤ k → k < end - 1 → get_or s k 0 ≢ 10) → (n : ℕ) → at + n ≤ end - 1 → Scanned s end (end - 1 - n)
  down h at f zero l = let e : end - 1 ≡ end - 1 - 0 = omega arith in subst (λ (j : ℕ). Scanned s end j) e (scan-begin h)
  down h at f (suc n) l =
      let k : Scanned s end (end - 1 - n) = down h at f n (omega (arith, l)) in
      let e : end - 1 - n - 1 ≡ end - 1 - suc n = omega arith in
      subst (λ (j : ℕ). Scanned s end j) e (scan-more k (omega (arith, l)) (f (end - 1 - n - 1) (omega (arith, l)) (omega (arith, l))))

  scanned-from : Ending s end → (at : ℕ) → at ≤ end - 1 → ((k : ℕ) → at ≤ k → k < end - 1 → get_or s k 0 ≢ 10) → Scanned s end at
  scanned-from h at l f =
      let e : end - 1 - (end - 1 - at) ≡ at = omega (arith, l) in
      subst (λ (j : ℕ). Scanned s end j) e (down h at f (end - 1 - at) (omega (arith, l)))

  abbrev inner : List ℕ
  inner = take (end - 1) s

  inner-long : Ending s end → length inner ≡ end - 1
  inner-long h = length-take-le (end - 1) s (omega (arith, h.within))

  read-inner : (P : ℕ → Type 0) (k : ℕ) → k < end - 1 → P (get_or inner k 0) → P (get_or s k 0)
  read-inner P k l = subst P (get_or-take (end - 1) s k 0 l)

  -- the last line feed before the last byte is found, or there is none
  pub start-found : Ending s end → (i : ℕ) → i < length inner → get_or inner i 0 ≡ 10 → ((k : ℕ) → i + 1 ≤ k → k < length inner → get_or inner k 0 ≢ 10) → LineStart s end (i + 1)
  start-found h i l e f =
      let n = inner-long h in
      let at : i + 1 - 1 ≡ i = omega arith in
      let feed : get_or s (i + 1 - 1) 0 ≡ 10 = ap (λ (j : ℕ). get_or s j 0) at ∙ read-inner (λ (b : ℕ). b ≡ 10) i (omega (arith, l, n)) e in
      scan-lf (scanned-from h (i + 1) (omega (arith, l, n)) (λ k a b. read-inner (λ (x : ℕ). x ≢ 10) k b (f k a (omega (arith, b, n))))) (omega arith) feed

  all-read : (xs : List ℕ) → All (λ b. b ≢ 10) xs → (k : ℕ) → k < length xs → get_or xs k 0 ≢ 10
  all-read [] a k l = absurd (omega (arith, l))
  all-read (x ∷ xs) a zero l = All-head (λ b. b ≢ 10) x xs a
  all-read (x ∷ xs) a (suc k) l = all-read xs (All-tail (λ b. b ≢ 10) x xs a) k (omega (arith, l))

  pub start-none : Ending s end → All (λ b. b ≢ 10) inner → LineStart s end 0
  start-none h a =
      let n = inner-long h in
      let k = scanned-from h 0 (omega arith) (λ k z b. read-inner (λ (x : ℕ). x ≢ 10) k b (all-read inner a k (omega (arith, b, n)))) in
      record { below = k.below; is = k.one ∙ sym (ap (λ (ls : List (List ℕ)). ls ++ (u ∷ [])) no_lines) }
