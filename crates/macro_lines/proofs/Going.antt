-- From place to place, and from places to lines.
use mathlib.Core.Path.{◌≡◌, refl, sym, ap, ◌∙◌, subst}
use mathlib.Core.List.{List, [], ◌∷◌, ◌++◌, map}
use Prim.Native.Nat.{ℕ, suc, ◌+◌, ◌-◌, ◌≤◌, ◌<◌}
use native.Mathlib.Omega.{arith}
use lib.Dec.{eqb}
use lib.ListN.{length, get_or, take, drop, set}
use Rattle.std.proofs.lemmas.List.{drop_more, drop-set-lt, drop-take, length-append, length-drop, map_more, take-append-drop, take_more_set, take-take}
use Rattle.std.proofs.lemmas.List.Elements.{filter-append}
use Rattle.language.specs.Limits as limit
use Rattle.macros.proofs.OrderLaws.{Rising}
use Rattle.syntax.specs.Below.Lists.{keep}
use Rattle.syntax.specs.Items.{line_of}
use Rattle.macros.proofs.LineLaws.{line_low}
use Rattle.macro_lines.specs.Lines.{Placed}

feeds-apart : (from to : ℕ) (s : List ℕ) → from ≤ to → length (keep (eqb 10) (take from s)) + length (keep (eqb 10) (take (to - from) (drop from s))) ≡ length (keep (eqb 10) (take to s))
feeds-apart from to s l =
    let e : from + (to - from) ≡ to = omega arith in
    let whole : take from s ++ take (to - from) (drop from s) ≡ take to s =
    ap (λ (t : List ℕ). t ++ take (to - from) (drop from s)) (sym (take-take from to s l))
    ∙ ap (λ (t : List ℕ). take from (take to s) ++ t) (sym (drop-take from (to - from) s) ∙ ap (λ (k : ℕ). drop from (take k s)) e)
    ∙ take-append-drop from (take to s) in
    omega (arith, ap length (filter-append (eqb 10) (take from s) (take (to - from) (drop from s))), length-append {A = ℕ}, ap (λ (t : List ℕ). length (keep (eqb 10) t)) whole)

-- the line of a place, from that of an earlier one
line_ahead : (s : List ℕ) (from to : ℕ) → from ≤ to → line_of s from + length (keep (eqb 10) (take (to - from) (drop from s))) ≡ line_of s to
unfolding line_of
line_ahead s from to l = omega (arith, feeds-apart from to s l)

-- the first j places have become lines
pub record Finding (s ps : List ℕ) (j from line : ℕ) (row : List ℕ) : Type 0 where
  pub done : take j row ≡ map (line_of s) (take j ps)
  pub rest : drop j row ≡ drop j ps
  pub rising : Rising from (length s) (drop j ps)
  pub known : line ≡ line_of s from
  pub low : from ≤ length s

pub finding_none : {s ps : List ℕ} → Placed s ps → Finding s ps 0 0 1 ps
unfolding line_of
finding_none h = record { done = refl; rest = refl; rising = h.rising; known = refl; low = omega arith }

module _ {s ps : List ℕ} (h : Placed s ps) {j from line : ℕ} {row : List ℕ} (u : Finding s ps j from line row) (more : j < length row) {to n : ℕ} (here : to ≡ get_or row j 0) (e : n ≡ length (keep (eqb 10) (take (to - from) (drop from s)))) where
  next : drop j ps ≡ to ∷ drop (j + 1) row
  next = sym u.rest ∙ drop_more row j 0 more ∙ ap (λ (b : ℕ). b ∷ drop (j + 1) row) (sym here)

  next-rising : Rising from (length s) (to ∷ drop (j + 1) row)
  next-rising = subst (λ (l : List ℕ). Rising from (length s) l) next u.rising

  pub next_line : line + n ≡ line_of s to
  next_line = omega (arith, u.known, e, line_ahead s from to next-rising.0)

  pub next-low : line + n ≤ suc limit.text
  next-low = omega (arith, next_line, line_low s to, next-rising.1, h.short)

  pub finding_next : Finding s ps (j + 1) to (line + n) (set row j (line + n))
  finding_next =
      let inside : j < length ps = omega (arith, more, ap length u.rest, length-drop {A = ℕ}) in
      let same : to ∷ drop (j + 1) row ≡ get_or ps j 0 ∷ drop (j + 1) ps = sym next ∙ drop_more ps j 0 inside in
      let its : to ≡ get_or ps j 0 = cc in
      record {
        done = take_more_set row j (line + n) more ∙ ap (λ (x : List ℕ). x ++ (line + n) ∷ []) u.done
            ∙ ap (λ (l : ℕ). map (line_of s) (take j ps) ++ l ∷ []) (next_line ∙ ap (line_of s) its) ∙ sym (map_more (line_of s) ps j 0 inside);
        rest = drop-set-lt (j + 1) row j (line + n) (omega arith) ∙ (let behind : drop (j + 1) row ≡ drop (j + 1) ps = cc in behind);
        rising = subst (λ (l : List ℕ). Rising to (length s) l) (let behind : drop (j + 1) row ≡ drop (j + 1) ps = cc in behind) next-rising.2;
        known = next_line;
        low = omega (arith, next-rising.1);
      }
