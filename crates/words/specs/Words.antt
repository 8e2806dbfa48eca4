-- What the functions on words answer: classes, numbers and indexed letters.
use Rattle.std.specs.Option.{MatchOption}
use Rattle.std.specs.Prelude.{◌≡◌, Bool, Option, Some, None, cond, ◌&&◌, List, ℕ, eqb, drop}
use Rattle.syntax.specs.Below.Letters as letters
use Rattle.syntax.specs.Below.Letters.{letter_code}
use Rattle.syntax.specs.Below.Program.{classes}
use Rattle.syntax.specs.Below.LanguageValues.{amount, numeral, value_of, in_range}
use Rattle.appending.specs.Below.LayoutCells.{code}
use Rattle.appending.specs.Below.Table.{letter_place, class_mask}
use Rattle.syntax.specs.Below.Lists.{all, ahead, filled, head_or, among}
use Rattle.syntax.specs.Below.Quoted.{bytes}
use Rattle.syntax.specs.ArgumentForms as syntax
use Rattle.syntax.specs.ArgumentForms.{is_indexed}
use Rattle.table.specs.Denote.{letter_of}
use Rattle.table.specs.declared.Letter.{Letter}
use Rattle.words.specs.declared.Lettered.{Lettered}

-- a class, as it is read of a word
abbrev pub class_letter : ℕ → Bool
class_letter b = among b (bytes "LDBR")

unfoldable pub is_class : List ℕ → Bool
is_class w = filled w && all class_letter w

-- its letters, as the table of a program has them; none for a word that is no class
unfoldable pub class_of : List ℕ → Option ℕ
class_of w = cond (is_class w) (Some (class_mask (classes w))) None

-- the code of the number that a word is
unfoldable pub numeral_of : List ℕ → Option ℕ
numeral_of w = cond (numeral w && in_range (value_of w)) (Some (code (value_of w))) None

-- the place of the letter of a byte among the letters; 12 for a byte of none
abbrev pub letter_at : ℕ → ℕ
letter_at b = ahead (λ l. eqb b (letter_code l)) letters.letters

-- r is the letter of b, and nothing where b is no letter's
abbrev pub Lettering : ℕ → Option Letter → Type 0
Lettering b r = MatchOption r (letter_at b ≡ 12) (λ l. letter_place (letter_of l) ≡ letter_at b)

-- the letter and the index of an indexed letter of code
abbrev pub letter_meant : Lettered → letters.Letter × ℕ
letter_meant l = (letter_of l.letter, l.index)

-- the indexed letter that a word is
unfoldable pub indexed_of : List ℕ → Option (letters.Letter × ℕ)
indexed_of w =
    let l = syntax.letter_of (head_or 0 w) in
    cond (is_indexed w l) (Some (l, amount 0 (drop 1 w))) None
