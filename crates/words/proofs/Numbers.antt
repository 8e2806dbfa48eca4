-- The code of a number, and what a word refuses to be.
use Rattle.std.specs.Prelude.{◌≡◌, refl, Bool, true, false, cond, ◌&&◌, Ok, Err, Some, None, List, ℕ}
use Rattle.std.specs.Result.{result_ok}
use Rattle.syntax.specs.Below.LanguageValues.{numeral, value_of, in_range}
use Rattle.appending.specs.Below.LayoutCells.{code}
use Rattle.numerals.specs.Numerals.{reads}
use Rattle.numerals.specs.declared.NoNumber.{NoNumber}
use Rattle.words.specs.Words.{numeral_of}

pub number_read : (w : List ℕ) → result_ok (reads w) ≡ numeral_of w
unfolding reads numeral_of
number_read w = go (numeral w) (in_range (value_of w))
  where
    go : (t u : Bool) → result_ok (cond t (cond u (Ok (code (value_of w))) (Err NoNumber.OutOfRange)) (Err NoNumber.NotNumeral)) ≡ cond (t && u) (Some (code (value_of w))) None
    go false u = refl
    go true false = refl
    go true true = refl
