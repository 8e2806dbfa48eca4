-- Bytes that begin no text, no comment and no item of macros are passed one by one.
use mathlib.Core.Path.{◌≡◌, refl, ap, sym, subst, ◌∙◌}
use mathlib.Core.Bool.{Bool, true, false, cond, ◌||◌, true≢false}
use mathlib.Core.List.{List, [], ◌∷◌, ◌++◌}
use Prim.Native.Nat.{ℕ, zero, suc, ◌+◌, ◌-◌, ◌≤◌, ◌<◌}
use native.Mathlib.Omega.{arith}
use lib.Dec.{eqb}
use lib.ListN.{length, get_or, take, drop, length-drop}
use Rattle.std.proofs.lemmas.List.{take_rest}
use lib.Seq.{get_or-drop}
use native.Mathlib.Nat.{add-zero}
use Rattle.lists.specs.ListLaws.{ahead-le}
use Rattle.characters.specs.Characters.{is_capital, is_digit}
use Rattle.lists.specs.Lists.{ahead, any, among}
use Rattle.lists.specs.Quoted.{bytes}
use Rattle.macros.specs.Marks.{byte_at}
use Rattle.scanner.proofs.Loops.{drop_here}
use Rattle.syntax.specs.Items.{Sort, sort_of, same_sort, Item, a_word, begins, itself, mode_after, items_at, left_over, read}
use Rattle.syntax.specs.Items.Sort.{separator, word, colon, end, text, wrong}
use Rattle.syntax.specs.Items.Mode.{outside, in_word}
use Rattle.macro_marks.specs.ItemLaws.{byte-within}
use Rattle.macros.specs.Conditions.{is_macros}
use Rattle.macro_marks.specs.Parts.{items_from, begins_mark, Plain}

module _ (s : List ℕ) where
  abbrev found : List Item → Bool
  found js = any (is_macros s) js

  -- a word is no item of macros
  in_words : (at n : ℕ) (w r : List ℕ) → found (read (in_word at w) n r) ≡ found (read outside n r)
  unfolding read left_over items_at mode_after begins itself
  in_words at n w [] = refl
  in_words at n w (b ∷ r) = go (sort_of b) (in_words at (n + 1) (w ++ (b ∷ [])) r) (in_words n (n + 1) (b ∷ []) r)
    where
      go : (k : Sort) → found (read (in_word at (w ++ (b ∷ []))) (n + 1) r) ≡ found (read outside (n + 1) r)
          → found (read (in_word n (b ∷ [])) (n + 1) r) ≡ found (read outside (n + 1) r)
          → found (cond (same_sort word k) [] (a_word at w ∷ itself k n b (get_or r 0 0)) ++ read (cond (same_sort word k) (in_word at (w ++ (b ∷ []))) (begins k n b (get_or r 0 0))) (n + 1) r)
          ≡ found (itself k n b (get_or r 0 0) ++ read (begins k n b (get_or r 0 0)) (n + 1) r)
      go separator g h = refl
      go word g h = g ∙ sym h
      go colon g h = refl
      go end g h = refl
      go text g h = refl
      go wrong g h = refl

  no_text : (b : ℕ) → eqb b 39 ≡ false → same_sort text (sort_of b) ≡ false
  unfolding sort_of
  no_text b h = rw h (go (among b (bytes " ,")) (is_capital b || is_digit b || among b (bytes "+-")) (eqb b 58) (among b (bytes ";\n")))
    where
      go : (a c d e : Bool) → same_sort text (cond a separator (cond c word (cond d colon (cond e end (cond false text wrong))))) ≡ false
      go true c d e = refl
      go false true d e = refl
      go false false true e = refl
      go false false false true = refl
      go false false false false = refl

  byte-passed : (k : Sort) (n b : ℕ) (r : List ℕ) → same_sort text k ≡ false → eqb b 47 ≡ false → among (byte_at s n) (bytes "*()") ≡ false
      → found (itself k n b (get_or r 0 0) ++ read (begins k n b (get_or r 0 0)) (n + 1) r) ≡ found (read outside (n + 1) r)
  unfolding itself begins
  byte-passed separator n b r t o a = refl
  byte-passed word n b r t o a = in_words n (n + 1) (b ∷ []) r
  byte-passed colon n b r t o a = refl
  byte-passed end n b r t o a = refl
  byte-passed text n b r t o a = absurd (true≢false t)
  byte-passed wrong n b r t o a = rw (o, a) refl

  none_of : (a b c : Bool) → (a || (b || c)) ≡ false → (a ≡ false) × (b ≡ false) × (c ≡ false)
  none_of true b c h = absurd (true≢false h)
  none_of false true c h = absurd (true≢false h)
  none_of false false c h = (refl, refl, h)

  one-passed : (n : ℕ) → n < length s → {t : Bool} → t ≡ (eqb (get_or s n 0) 39 || (eqb (get_or s n 0) 47 || among (get_or s n 0) (bytes "*()"))) → t ≡ false
      → found (items_from s n) ≡ found (items_from s (n + 1))
  unfolding read items_at mode_after
  one-passed n l f g =
      let b = get_or s n 0 in
      let q = none_of (eqb b 39) (eqb b 47) (among b (bytes "*()")) (sym f ∙ g) in
      let a : among (byte_at s n) (bytes "*()") ≡ false = ap (λ (x : ℕ). among x (bytes "*()")) (sym (byte-within s n l)) ∙ q.2 in
      ap (λ (r : List ℕ). found (read outside n r)) (drop_here s n l) ∙ byte-passed (sort_of b) n b (drop (n + 1) s) (no_text b q.0) q.1 a

plain-first : (s : List ℕ) (n : ℕ) → n ≤ length s → Plain s n n
plain-first s n h = record { from = omega arith; most = h; is = refl }

plain-on : {s : List ℕ} {n i : ℕ} → Plain s n i → i < length s → begins_mark (get_or s i 0) ≡ false → Plain s n (i + 1)
plain-on {s} {n} {i} p l g = record { from = omega (arith, p.from); most = omega arith; is = p.is ∙ one-passed s i l refl g }

no-mark : (xs : List ℕ) (i : ℕ) → i < ahead begins_mark xs → begins_mark (get_or xs i 0) ≡ false
no-mark [] i l = absurd (omega arith)
no-mark (x ∷ xs) i l = go i (begins_mark x) refl l (no-mark xs)
  where
    go : (j : ℕ) (b : Bool) → begins_mark x ≡ b → j < elim b [ true ↦ 0 | false ↦ suc (ahead begins_mark xs) ]
        → ((k : ℕ) → k < ahead begins_mark xs → begins_mark (get_or xs k 0) ≡ false) → begins_mark (get_or (x ∷ xs) j 0) ≡ false
    go j true e h f = absurd (omega (arith, h))
    go zero false e h f = e
    go (suc j) false e h f = f j (omega (arith, h))

pub plain_ahead : (s : List ℕ) (n : ℕ) → n ≤ length s → {k : ℕ} → k ≡ ahead begins_mark (take (length s - n) (drop n s)) → Plain s n (n + k)
plain_ahead s n l {k} e = go k (omega (arith, e, ap (ahead begins_mark) (take_rest s n)))
  where
    go : (j : ℕ) → j ≤ ahead begins_mark (drop n s) → Plain s n (n + j)
    go zero h = rw add-zero (plain-first s n l)
    go (suc j) h =
        let i : n + j < length s = omega (arith, ahead-le begins_mark (drop n s), length-drop n s) in
        let b : begins_mark (get_or s (n + j) 0) ≡ false = ap begins_mark (sym (get_or-drop n s j 0)) ∙ no-mark (drop n s) j (omega (arith, h)) in
        let a : n + j + 1 ≡ n + suc j = omega arith in
        subst (λ (m : ℕ). Plain s n m) a (plain-on (go j (omega (arith, h))) i b)
