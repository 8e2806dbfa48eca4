-- One piece printed after another, and numbers.
use mathlib.Core.Path.{◌≡◌, refl, ap, sym, ◌∙◌}
use mathlib.Core.Bool.{Bool, true, false}
use mathlib.Core.List.{List, [], ◌∷◌, ◌++◌}
use Prim.Native.Nat.{ℕ, zero, suc, ◌+◌, ◌-◌, ◌/◌, ◌%◌, ◌≤◌}
use native.Mathlib.Omega.{arith}
use lib.Dec.{ltb}
use lib.ListN.{length, take, length-append}
use Rattle.std.specs.Prelude.{Option, None, Some}
use borrow.Author.Tests.{le-leb}
use Rattle.cells.proofs.Laws.{length-pasted, pasted-pasted, pasted-front}
use Rattle.cells.specs.Cells.{pasted}
use Rattle.components.specs.Parts.{Written}
use Rattle.language.specs.Values.{digits, decimal}
use Rattle.layout.specs.Cells.{uncode}
use Rattle.lists.specs.Quoted.{bytes}
use Rattle.console.specs.Console.{number_bytes, field, answer_bytes}
use Rattle.console.specs.Parts.{Put, answer_of}

-- how long the cells stay
pub put-long : {d x e : List ℕ} {at r : ℕ} → Put d at x e r → length e ≡ length d
put-long {d} {x} {at = at} h = ap length h.is ∙ length-pasted d at x (omega (arith, h.count, h.fits))

pub put_then : {d x e y f : List ℕ} {at r q : ℕ} → Put d at x e r → Put e r y f q → Put d at (x ++ y) f q
put_then {d} {x} {e} {y} {at = at} {r = r} h k =
    let long : length (x ++ y) ≡ length x + length y = length-append x y in
    let same : length e ≡ length d = put-long h in
    record {
      is =
          k.is ∙ ap (λ (l : List ℕ). pasted l r y) h.is ∙ ap (λ (n : ℕ). pasted (pasted d at x) n y) h.count
          ∙ pasted-pasted d at x y (omega (arith, h.count, k.count, k.fits));
      count = omega (arith, h.count, k.count);
      fits = omega (arith, k.fits);
    }

pub put_same : {d x y e : List ℕ} {at r : ℕ} → x ≡ y → Put d at x e r → Put d at y e r
put_same q h = rw (sym q) h

digits-most : (k n : ℕ) → length (digits k n) ≤ k
digits-most zero n = omega arith
digits-most (suc k) n = go (ltb n 10) (digits-most k (n / 10))
  where
    go : (b : Bool) → length (digits k (n / 10)) ≤ k → length {A = ℕ} (elim b [ true ↦ (48 + n) ∷ [] | false ↦ digits k (n / 10) ++ ((48 + n % 10) ∷ []) ]) ≤ suc k
    go true h = omega arith
    go false h = omega (arith, length-append (digits k (n / 10)) ((48 + n % 10) ∷ []))

pub number_most : (n : ℕ) → length (number_bytes n) ≤ 7
number_most n = digits-most 7 n

pub field-most : (name : List ℕ) (n : ℕ) → length (field name n) ≤ length name + 7
field-most name n = omega (arith, length-append name (number_bytes n), number_most n)

-- the number of a code
number_of : (n : ℕ) → decimal (uncode (n + 8388607)) ≡ number_bytes n
unfolding uncode
number_of n =
    let e : n + 8388607 - 8388607 ≡ n = omega arith in
    rw (le-leb 8388607 (n + 8388607) (omega arith), e) refl

pub number-told : (n : ℕ) {d e : List ℕ} {r : ℕ} → Written d (decimal (uncode (n + 8388607))) e r → take r e ≡ number_bytes n
number-told n {d} {r = r} h =
    let l : List ℕ = decimal (uncode (n + 8388607)) in
    ap (take r) h.is ∙ pasted-front d l r (sym h.count) ∙ number_of n

pub answer-most : (stopped : Option ℕ) → length (answer_bytes (answer_of stopped)) ≤ 12
answer-most None = omega arith
answer-most (Some n) = omega (arith, field-most (bytes "STOP ") n)
