-- Classes and the letters of arguments.
use mathlib.Core.Path.{◌≡◌, refl}
use mathlib.Core.Bool.{Bool, true, false, cond}
use mathlib.Core.List.{List}
use Prim.Native.Nat.{ℕ, ◌+◌}
use lib.Dec.{eqb}
use Rattle.syntax.specs.Below.Program.{classes}
use Rattle.appending.specs.Below.Table.{class_mask}
use Rattle.syntax.specs.Below.Lists.{keep, among}
use Rattle.syntax.specs.Below.Quoted.{bytes}

-- the letters of a class, by whether each stands in the word
abbrev listed : Bool → Bool → Bool → Bool → List ℕ
listed l d s r = keep (λ b. cond (eqb b 76) l (cond (eqb b 68) d (cond (eqb b 66) s r))) (bytes "LDBR")

listed-mask : (l d s r : Bool) → ((cond l 1 0 + cond d 2 0) + cond s 4 0) + cond r 8 0 ≡ class_mask (listed l d s r)
listed-mask true true true true = refl
listed-mask true true true false = refl
listed-mask true true false true = refl
listed-mask true true false false = refl
listed-mask true false true true = refl
listed-mask true false true false = refl
listed-mask true false false true = refl
listed-mask true false false false = refl
listed-mask false true true true = refl
listed-mask false true true false = refl
listed-mask false true false true = refl
listed-mask false true false false = refl
listed-mask false false true true = refl
listed-mask false false true false = refl
listed-mask false false false true = refl
listed-mask false false false false = refl

pub mask-of : (w : List ℕ) → ((cond (among 76 w) 1 0 + cond (among 68 w) 2 0) + cond (among 66 w) 4 0) + cond (among 82 w) 8 0 ≡ class_mask (classes w)
mask-of w = listed-mask (among 76 w) (among 68 w) (among 66 w) (among 82 w)
