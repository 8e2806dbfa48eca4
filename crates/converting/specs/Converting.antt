-- What SLOWO and LICZBA ask and tell.
use Rattle.std.specs.Prelude.{◌≡◌, List, ℕ, ◌+◌, ◌≤◌, ◌<◌, length, take, Result, IfOk}
use Rattle.language.specs.Values.{Component, chars, decimal, numeral, value_of, in_range}
use Rattle.language.specs.Values.Component.{word}
use Rattle.machine.specs.Arguments.{Asks, first, ask, needs, ◌&◌}
use Rattle.layout.specs.Cells.{uncode}
use Rattle.layout.specs.Components.{component_bytes}
use Rattle.cells.specs.Cells.{pasted}
use Rattle.state.specs.Blocks.{FirstParts}
use Rattle.instructions.specs.Questions.{told_by}
use Rattle.instructions.specs.declared.Question.{Question}
use Rattle.instructions.specs.Does.{stop_of}
use Rattle.converting.specs.declared.Spelled.{Spelled}

-- d with the decimal word of a number in front, which has r characters
pub record NumeralPut (d : List ℕ) (code : ℕ) (e : List ℕ) (r : ℕ) : Type 0 where
  pub is : e ≡ pasted d 0 (component_bytes (word (decimal (uncode code))))
  pub count : r ≡ length (decimal (uncode code))
  pub some : 0 < r
  pub most : r ≤ 8

-- "Is it of the right kind (LICZBA: a sign or none, then digits)? 53" "results within range? 54"
abbrev pub numeral_asks : List Component → Asks
numeral_asks xs = needs 0 xs & ask 53 (numeral (chars (first xs))) & ask 54 (in_range (value_of (chars (first xs))))

-- the word in front of es is the number of this code
pub record Spells (es : List Component) (w : Spelled) : Type 0 where
  pub is : value_of (chars (first (take 1 es))) ≡ uncode w.code
  pub first_is : FirstParts es 1 (1 + w.letters) w.letters
  pub most : w.code ≤ 16777214
  pub letters_most : w.letters ≤ 255

-- the word in front of es as a number
pub record ReadsNumeral (es : List Component) (r : Result Spelled Question) : Type 0 where
  pub told : told_by r ≡ stop_of (numeral_asks (take 1 es))
  pub is : IfOk r (λ w. Spells es w)
