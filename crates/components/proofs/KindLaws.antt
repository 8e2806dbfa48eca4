-- Kinds are compared as their numbers are.
use mathlib.Core.Path.{◌≡◌, refl, sym, ap, ◌∙◌, subst}
use mathlib.Core.Bool.{Bool, true, false, not}
use Prim.Native.Nat.{ℕ}
use lib.Dec.{eqb, T}
use borrow.Author.Tests.{eqb-true, eq-eqb, not-false}
use denote.Enum.Bare.{sameb}
use Rattle.components.specs.contracts.Kind.{the_type}
use Rattle.components.specs.declared.Kind.{Kind}
use Rattle.components.specs.declared.Kind.TheVariants.{Word, Number, Address}
use Rattle.components.specs.Parts.{kind_number}

pub kinds_same : (j k : Kind) → sameb the_type j k ≡ eqb (kind_number j) (kind_number k)
kinds_same Word Word = refl
kinds_same Word Number = refl
kinds_same Word Address = refl
kinds_same Number Word = refl
kinds_same Number Number = refl
kinds_same Number Address = refl
kinds_same Address Word = refl
kinds_same Address Number = refl
kinds_same Address Address = refl

-- n is the number of the kind j, and `told` whether j and k differ
module _ (j k : Kind) {n : ℕ} {told : Bool} (e : kind_number j ≡ n) (q : told ≡ not (sameb the_type j k)) where
  pub other_kind : told ≡ true → n ≡ kind_number k → ⊥
  other_kind t h = subst T (sym t ∙ q ∙ ap not (kinds_same j k ∙ eq-eqb (kind_number j) (kind_number k) (e ∙ h))) tt

  pub right_kind : told ≡ false → n ≡ kind_number k
  right_kind t = sym e ∙ eqb-true (kind_number j) (kind_number k) (sym (kinds_same j k) ∙ not-false (sameb the_type j k) (sym q ∙ t))
