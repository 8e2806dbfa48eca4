-- Tests of characters: of a word that they are compared with, only the first character counts, and no other component is met.
use mathlib.Core.Path.{◌≡◌, refl, sym, ap, fun_ext}
use mathlib.Core.Bool.{Bool, true, false, ◌&&◌, ◌||◌, and-true}
use mathlib.Core.List.{List, [], ◌∷◌, map}
use Prim.Native.Nat.{ℕ, ◌≤◌}
use native.Mathlib.Omega.{arith}
use lib.Dec.{eqb}
use lib.ListN.{length, take, length-append, length-take}
use Rattle.std.proofs.lemmas.List.Folds.{list_any-append}
use Rattle.components.specs.Below.Letters.{Letter, Reading}
use Rattle.components.specs.Below.Letters.Reading.{one, any_of}
use Rattle.components.specs.Below.Program.Arg.{letter, class, text}
use Rattle.components.specs.Below.LanguageValues.{Component, Store, Inputs, chars, same, of_class}
use Rattle.components.specs.Below.LanguageValues.Component.{word, address}
use Rattle.components.specs.Below.Table.{class_by}
use Rattle.characters.specs.Below.Lists.{any, among}
use Rattle.components.specs.Below.MachineArguments.{char, side, Until, up_to, by_reading, cut, on_chars}
use Rattle.matching.specs.Tests.{in_class, first_chars}

-- a character and what is left of a component
same-cut : (b : ℕ) (x : Component) → same (char b) (cut x) ≡ among b (take 1 (chars x))
same-cut b (word []) = refl
same-cut b (word (y ∷ w)) = go (eqb b y)
  where
    go : (t : Bool) → ((t && true) && true) ≡ (t || false)
    go true = refl
    go false = refl
same-cut b (Component.number z) = refl
same-cut b (address n) = refl

-- so the characters to compare with can be prepared
pub first_met : (b : ℕ) (xs : List Component) → any (same (char b)) (map cut xs) ≡ among b (first_chars xs)
first_met b [] = refl
first_met b (x ∷ xs) = rw (same-cut b x, first_met b xs) (sym (list_any-append (eqb b) (take 1 (chars x)) (first_chars xs)))

pub class-met : (mask b : ℕ) → of_class (class_by [] mask) (char b) ≡ in_class mask b
class-met mask b = and-true (in_class mask b)

module _ (ins : Inputs) (s : Store) where
  -- the tests of characters, as the code has them
  pub chars-class : (mask : ℕ) → on_chars ins s (class (class_by [] mask)) ≡ up_to (in_class mask)
  chars-class mask = ap up_to (fun_ext (class-met mask))

  pub chars-text : (t : List ℕ) → on_chars ins s (text t) ≡ up_to (λ b. among b (take 1 t))
  chars-text t = ap up_to (fun_ext (λ b. same-cut b (word t)))

  module _ (l : Letter) (n : ℕ) where
    abbrev given : List ℕ
    given = first_chars (side ins s (letter l n))

    abbrev by : Reading → Until ℕ
    by r = by_reading char cut (λ x. char x ∷ []) ins s r (letter l n)

    -- where the letter reads one component, and where it reads any of several
    pub chars-one : by one ≡ up_to (λ b. among b given)
    chars-one = ap up_to (fun_ext (λ b. first_met b (side ins s (letter l n))))

    pub chars-any : by any_of ≡ up_to (λ b. among b given)
    chars-any = chars-one

-- there are no more first characters than components
pub firsts-most : (xs : List Component) → length (first_chars xs) ≤ length xs
firsts-most [] = omega arith
firsts-most (x ∷ xs) = simp (length-append, length-take) (omega (arith, firsts-most xs))
