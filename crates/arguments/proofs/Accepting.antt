-- What `accepted` tells, way by way.
use Rattle.std.proofs.Common.{◌≡◌, refl, sym, ap, ◌∙◌, ℕ, Bool, true, false, cond, eqb}
use Rattle.std.specs.Prelude.{Option, None, Some, Err}
use Rattle.lexer.specs.declared.Token.{Token}
use Rattle.forms.specs.Reading.{Reads, if_taken}
use Rattle.arguments.specs.Arguments.{or_colon, accepted}

module _ (z : Bool) (t : Token) (b : Reads) where
  pub colon-told : z ≡ true → Err t.at ≡ accepted z t b
  unfolding accepted
  colon-told e = rw e

  module _ (e : z ≡ false) where
    none-by : (y : Bool) → None ≡ cond y None (Some b) → Err t.at ≡ cond y (Err t.at) (or_colon t.colon b)
    none-by true h = refl
    none-by false h = cc

    pub none-told : None ≡ if_taken b → Err t.at ≡ accepted z t b
    unfolding accepted
    none-told h = rw e (none-by (eqb b.form 45) h)

    some-by : (y : Bool) {r : Reads} → Some r ≡ cond y None (Some b) → or_colon t.colon r ≡ cond y (Err t.at) (or_colon t.colon b)
    some-by true h = cc
    some-by false h = cc

    pub some-told : {r : Reads} → Some r ≡ if_taken b → (k : Option ℕ) → t.colon ≡ k → or_colon k r ≡ accepted z t b
    unfolding accepted
    some-told {r} h k q = ap (λ c. or_colon c r) (sym q) ∙ rw e (some-by (eqb b.form 45) h)
