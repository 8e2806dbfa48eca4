-- What the functions on the characters of a token promise.
use Rattle.std.specs.Prelude.{◌≡◌, Bool, false, List, [], ◌∷◌, ℕ, ◌+◌, ◌≤◌, length, Option, None, Some}
use Rattle.words.specs.Below.Cells.{pasted}
use Rattle.scanner.specs.Below.Items.{char_of}
use Rattle.scanner.specs.Below.SyntaxScan.{text_chars}
use Rattle.lexer.specs.Tokens.{part}

-- the character of a byte that gives one
abbrev pub characters : Option ℕ → List ℕ
characters None = []
characters (Some c) = c ∷ []

abbrev pub Gives : Bool → ℕ → Option ℕ → Type 0
Gives star b c = char_of star b ≡ characters c

-- cs is written into d from index j on, and r is the index behind it
pub record Put (d : List ℕ) (j : ℕ) (cs : List ℕ) (r : ℕ) (o : List ℕ) : Type 0 where
  pub is : o ≡ pasted d j cs
  pub next : r ≡ j + length cs

-- the characters of a text whose bytes stand from place a to place e
abbrev pub text_in : List ℕ → ℕ → ℕ → List ℕ
text_in s a e = text_chars false (part s a e)

-- two places of s
pub record Between (s : List ℕ) (a e : ℕ) : Type 0 where
  pub order : a ≤ e
  pub most : e ≤ length s

-- the characters fit into d
pub record FitsText (s : List ℕ) (a e : ℕ) (d : List ℕ) : Type 0 where
  pub between : Between s a e
  pub room : length (text_in s a e) ≤ length d

-- two places with len bytes from each on
pub record TwoParts (s : List ℕ) (a b len : ℕ) : Type 0 where
  pub first : a + len ≤ length s
  pub second : b + len ≤ length s
