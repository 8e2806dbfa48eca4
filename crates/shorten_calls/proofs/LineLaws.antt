-- Laws of lines: they join to the text, and some of them in order are again the lines of a text.
use Rattle.std.specs.Prelude.{◌≡◌, refl, ◌≢◌, Bool, true, false, cond, List, [], ◌∷◌, ◌++◌, ℕ, ◌≤◌, ◌<◌, eqb, length}
use Rattle.std.proofs.Common.{ap, sym, ◌∙◌, subst, append_assoc, arith, length-append, eqb-true, ne_eqb}
use mathlib.Core.List.Sublistᴰ
use Rattle.std.proofs.lemmas.Bool.{eqb-false}
use mathlib.Core.List.{append-nil}
use Rattle.lists.specs.Lists.{joined}
use Rattle.text_lines.specs.Lines.{onto, lines}
use Rattle.shorten_calls.specs.Parts.{InOrder, Whole, Open, Lined}
use Rattle.shorten_calls.specs.Parts.Whole.{lf, more}
use Rattle.shorten_calls.specs.Parts.Open.{one, more_open}
use Rattle.shorten_calls.specs.Parts.Lined.{none, last, next}

pub joined-append : (xs ys : List (List ℕ)) → joined (xs ++ ys) ≡ joined xs ++ joined ys
joined-append [] ys = refl
joined-append (x ∷ xs) ys = ap (λ l. x ++ l) (joined-append xs ys) ∙ sym (append_assoc x (joined xs) (joined ys))

-- ---- the lines of a text are such lines, and so are some of them

onto-lined : (b : ℕ) → b ≢ 10 → (ls : List (List ℕ)) → Lined ls → Lined (onto b ls)
onto-lined b h [] none = last (one h)
onto-lined b h (l ∷ ls) (last o) = last (more_open h o)
onto-lined b h (l ∷ ls) (next w k) = next (more h w) k

lf_line : (b : ℕ) → b ≡ 10 → Whole (b ∷ [])
lf_line b e = subst (λ (x : ℕ). Whole (x ∷ [])) (sym e) lf

pub lines-lined : (s : List ℕ) → Lined (lines s)
unfolding lines
lines-lined [] = none
lines-lined (b ∷ s) = go (eqb b 10) refl (lines-lined s)
  where
    go : (x : Bool) → eqb b 10 ≡ x → Lined (lines s) → Lined (cond x ((b ∷ []) ∷ lines s) (onto b (lines s)))
    go true e k = next (lf_line b (eqb-true b 10 e)) k
    go false e k = onto-lined b (eqb-false b 10 e) (lines s) k

lined-tail : (l : List ℕ) (ls : List (List ℕ)) → Lined (l ∷ ls) → Lined ls
lined-tail l ls (last o) = none
lined-tail l ls (next w k) = k

lined-head : (l : List ℕ) (ls xs : List (List ℕ)) → Lined (l ∷ ls) → InOrder xs ls → Lined xs → Lined (l ∷ xs)
lined-head l ls xs (last o) Sublistᴰ.slnil k = last o
lined-head l ls xs (next w h) s k = next w k

pub some-lined : (xs ls : List (List ℕ)) → InOrder xs ls → Lined ls → Lined xs
some-lined xs ls Sublistᴰ.slnil h = none
some-lined xs ls (Sublistᴰ.cons {a = a} {l₁ = l₁} {l₂ = l₂} s) h = some-lined l₁ l₂ s (lined-tail a l₂ h)
some-lined xs ls (Sublistᴰ.cons-cons {a = a} {b = b} {l₁ = l₁} {l₂ = l₂} e s) h =
    subst (λ (x : List ℕ). Lined (x ∷ l₁)) (sym e) (lined-head b l₂ l₁ h s (some-lined l₁ l₂ s (lined-tail b l₂ h)))

-- ---- and they are read back from the text that they join to

whole-first : {l : List ℕ} → Whole l → (t : List ℕ) → lines (l ++ t) ≡ l ∷ lines t
unfolding lines
whole-first lf t = refl
whole-first (more {b = b} {l = l} h w) t =
    ap (λ x. cond x ((b ∷ []) ∷ lines (l ++ t)) (onto b (lines (l ++ t)))) (ne_eqb b 10 h) ∙ ap (onto b) (whole-first w t)

open-only : {l : List ℕ} → Open l → lines l ≡ l ∷ []
unfolding lines
open-only (one {b = b} h) = ap (λ x. cond x ((b ∷ []) ∷ []) (onto b [])) (ne_eqb b 10 h)
open-only (more_open {b = b} {l = l} h w) = ap (λ x. cond x ((b ∷ []) ∷ lines l) (onto b (lines l))) (ne_eqb b 10 h) ∙ ap (onto b) (open-only w)

pub lines-back : (ls : List (List ℕ)) → Lined ls → lines (joined ls) ≡ ls
unfolding lines
lines-back ls none = refl
lines-back ls (last {l = l} o) = ap lines (append-nil l) ∙ open-only o
lines-back ls (next {l = l} {ls = r} w k) = whole-first w (joined r) ∙ ap (λ (u : List (List ℕ)). l ∷ u) (lines-back r k)

-- ---- bytes count lines: some lines in order that have as many bytes are all of them

whole-some : {l : List ℕ} → Whole l → 0 < length l
whole-some lf = omega arith
whole-some (more h w) = omega arith

open-some : {l : List ℕ} → Open l → 0 < length l
open-some (one h) = omega arith
open-some (more_open h w) = omega arith

first_some : (l : List ℕ) (ls : List (List ℕ)) → Lined (l ∷ ls) → 0 < length l
first_some l ls (last o) = open-some o
first_some l ls (next w k) = whole-some w

pub lighter : {xs ls : List (List ℕ)} → InOrder xs ls → length (joined xs) ≤ length (joined ls)
lighter Sublistᴰ.slnil = omega arith
lighter (Sublistᴰ.cons {a = a} {l₂ = l₂} s) = omega (arith, lighter s, length-append a (joined l₂))
lighter (Sublistᴰ.cons-cons {a = a} {b = b} {l₁ = l₁} {l₂ = l₂} e s) =
    omega (arith, lighter s, length-append a (joined l₁), length-append b (joined l₂), ap length e)

pub as-heavy : {xs ls : List (List ℕ)} → InOrder xs ls → Lined ls → length (joined xs) ≡ length (joined ls) → xs ≡ ls
as-heavy Sublistᴰ.slnil h q = refl
as-heavy (Sublistᴰ.cons {a = a} {l₂ = l₂} s) h q = absurd (omega (arith, lighter s, length-append a (joined l₂), first_some a l₂ h, q))
as-heavy (Sublistᴰ.cons-cons {a = a} {b = b} {l₁ = l₁} {l₂ = l₂} e s) h q =
    let k = as-heavy s (lined-tail b l₂ h) (omega (arith, q, length-append a (joined l₁), length-append b (joined l₂), ap length e)) in cc

-- ---- the last line

-- lines are cut behind an LF
onto-front : (b : ℕ) (xs ys : List (List ℕ)) → 0 < length xs → onto b (xs ++ ys) ≡ onto b xs ++ ys
onto-front b [] ys h = absurd (omega (arith, h))
onto-front b (x ∷ xs) ys h = refl

onto-some : (b : ℕ) (ls : List (List ℕ)) → 0 < length (onto b ls)
onto-some b [] = omega arith
onto-some b (l ∷ ls) = omega arith

some-lines : (b : ℕ) (s : List ℕ) → 0 < length (lines (b ∷ s))
unfolding lines
some-lines b s = go (eqb b 10)
  where
    go : (x : Bool) → 0 < length (cond x ((b ∷ []) ∷ lines s) (onto b (lines s)))
    go true = omega arith
    go false = onto-some b (lines s)

front-some : (v : List ℕ) → 0 < length (lines (v ++ (10 ∷ [])))
front-some [] = some-lines 10 []
front-some (b ∷ v) = some-lines b (v ++ (10 ∷ []))

pub lf-split : (v w : List ℕ) → lines (v ++ (10 ∷ w)) ≡ lines (v ++ (10 ∷ [])) ++ lines w
unfolding lines
lf-split [] w = refl
lf-split (b ∷ v) w = go (eqb b 10) (lf-split v w)
  where
    go : (x : Bool) → lines (v ++ (10 ∷ w)) ≡ lines (v ++ (10 ∷ [])) ++ lines w
        → cond x ((b ∷ []) ∷ lines (v ++ (10 ∷ w))) (onto b (lines (v ++ (10 ∷ w))))
        ≡ cond x ((b ∷ []) ∷ lines (v ++ (10 ∷ []))) (onto b (lines (v ++ (10 ∷ [])))) ++ lines w
    go true k = ap (λ (u : List (List ℕ)). (b ∷ []) ∷ u) k
    go false k = ap (onto b) k ∙ onto-front b (lines (v ++ (10 ∷ []))) (lines w) (front-some v)

-- a byte that is no LF before one line is one line; so is any byte alone
pub one_byte : (b : ℕ) → lines (b ∷ []) ≡ (b ∷ []) ∷ []
unfolding lines
one_byte b = go (eqb b 10)
  where
    go : (x : Bool) → cond x ((b ∷ []) ∷ []) (onto b []) ≡ (b ∷ []) ∷ []
    go true = refl
    go false = refl

pub one_more : (b : ℕ) (l : List ℕ) → b ≢ 10 → lines l ≡ l ∷ [] → lines (b ∷ l) ≡ (b ∷ l) ∷ []
unfolding lines
one_more b l h e = ap (λ x. cond x ((b ∷ []) ∷ lines l) (onto b (lines l))) (ne_eqb b 10 h) ∙ ap (onto b) e

pub no_lines : lines [] ≡ []
unfolding lines
no_lines = refl
