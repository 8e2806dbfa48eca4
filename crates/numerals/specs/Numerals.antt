-- Words of digits as numbers: what the functions ask and tell.
use Rattle.std.specs.Prelude.{Option, Some, None, Result, Ok, Err, Bool, cond, List, ℕ, ◌+◌, ◌-◌, ◌≤◌, min, ltb}
use Rattle.language.specs.Limits as limit
use Rattle.language.specs.Values.{amount, unsigned, numeral, value_of, in_range}
use Rattle.layout.specs.Cells.{code}
use Rattle.numerals.specs.declared.NoNumber.{NoNumber}

-- what a word is as a number: LICZBA asks whether it is one, and whether it is in range
unfoldable pub reads : List ℕ → Result ℕ NoNumber
reads w = cond (numeral w) (cond (in_range (value_of w)) (Ok (code (value_of w))) (Err NoNumber.OutOfRange)) (Err NoNumber.NotNumeral)

-- the number that digits write, cut at what is out of range; none where they write none
unfoldable pub measured : List ℕ → Option ℕ
measured s = cond (unsigned s) (Some (min (amount 0 s) (limit.size + 1))) None

unfoldable pub coded : Bool → Option ℕ → Result ℕ NoNumber
coded negative None = Err NoNumber.NotNumeral
coded negative (Some n) = cond (ltb limit.size n) (Err NoNumber.OutOfRange) (Ok (cond negative (limit.size - n) (limit.size + n)))

-- n can take one more digit
pub record Growable (n b : ℕ) : Type 0 where
  pub most : n ≤ limit.size + 1
  pub low : 48 ≤ b
  pub high : b ≤ 57
