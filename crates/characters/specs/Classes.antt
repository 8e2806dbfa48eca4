-- The classes of characters, each with its letter.
use Rattle.std.specs.Prelude.{ℕ, eqb}
use Rattle.lists.specs.Lists.{ahead}
use Rattle.lists.specs.Quoted.{bytes}
use Rattle.characters.specs.declared.Class.{Class}

abbrev pub letter_of : Class → ℕ
letter_of Class.Letter = 76
letter_of Class.Digit = 68
letter_of Class.Space = 66
letter_of Class.Rest = 82

-- where it stands in LDBR
abbrev pub place_of : Class → ℕ
place_of c = ahead (eqb (letter_of c)) (bytes "LDBR")
