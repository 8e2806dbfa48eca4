-- The kinds of arguments in the cells of a program table, by their numbers.
use Rattle.std.specs.Prelude.{◌≡◌, ℕ, ◌<◌, Result, IfOk, IsOk}
use Rattle.layout.specs.declared.ArgumentKind.{ArgumentKind}
use Rattle.layout.specs.declared.ArgumentKind.TheVariants.{Nothing, Letter, Label, Switch, Class, Text, Number}
use Rattle.layout.specs.declared.NoKind.{NoKind}

abbrev pub number : ArgumentKind → ℕ
number Nothing = 0
number Letter = 1
number Label = 2
number Switch = 3
number Class = 4
number Text = 5
number Number = 6

abbrev pub IsNumber : ArgumentKind → ℕ → Type 0
IsNumber k n = n ≡ number k

-- the numbers below 7, and no others, are kinds'
pub record IsKind (n : ℕ) (r : Result ArgumentKind NoKind) : Type 0 where
  pub number_is : IfOk r (λ k. number k ≡ n)
  pub some : n < 7 → IsOk r
