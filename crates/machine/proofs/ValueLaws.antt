-- Laws of components: `same` is equality.
use Rattle.std.specs.Prelude.{◌≡◌, T, ℤ, pos, negsuc}
use Rattle.std.proofs.Common.{ap, le_antisymm, eqb→eq, leb→le}
use Rattle.std.proofs.Math.Dec.{eqb_refl}
use Rattle.std.specs.Int.Signed.{le_z, ≤ℤ_refl}
use Rattle.language.specs.Below.ListLaws.{T-left, T-right, T-both, part, parts, same_bytes-eq, same_bytes-refl}
use Rattle.language.specs.Values.{Component, chars, value, link, kind, same_number, same_tests, same}
use Rattle.language.specs.Values.Component.{word, address}

le_z-antisymm : (a b : ℤ) → T (le_z a b) → T (le_z b a) → a ≡ b
le_z-antisymm (pos a) (pos b) h k = ap pos (le_antisymm (leb→le a b h) (leb→le b a k))
le_z-antisymm (pos a) (negsuc b) h k = absurd h
le_z-antisymm (negsuc a) (pos b) h k = absurd k
le_z-antisymm (negsuc a) (negsuc b) h k = ap negsuc (le_antisymm (leb→le a b k) (leb→le b a h))

pub same_number-eq : (x y : ℤ) → T (same_number x y) → x ≡ y
same_number-eq x y h = le_z-antisymm x y (T-left (le_z x y) (le_z y x) h) (T-right (le_z x y) (le_z y x) h)

pub same_number-refl : (x : ℤ) → T (same_number x x)
same_number-refl x = T-both (le_z x x) (le_z x x) (≤ℤ_refl x).le (≤ℤ_refl x).le

pub same-eq : (x y : Component) → T (same x y) → x ≡ y
same-eq (word v) (word w) h = ap word (same_bytes-eq v w (part (same_tests (word v) (word w)) h 1))
same-eq (word v) (Component.number z) h = absurd h
same-eq (word v) (address n) h = absurd h
same-eq (Component.number z) (word w) h = absurd h
same-eq (Component.number y) (Component.number z) h =
    ap Component.number (same_number-eq y z (part (same_tests (Component.number y) (Component.number z)) h 2))
same-eq (Component.number z) (address n) h = absurd h
same-eq (address n) (word w) h = absurd h
same-eq (address n) (Component.number z) h = absurd h
same-eq (address m) (address n) h = ap address (eqb→eq m n (part (same_tests (address m) (address n)) h 3))

pub same_refl : (x : Component) → T (same x x)
same_refl x =
    parts (same_tests x x) (eqb_refl (kind x), (same_bytes-refl (chars x), (same_number-refl (value x), (eqb_refl (link x), tt))))
