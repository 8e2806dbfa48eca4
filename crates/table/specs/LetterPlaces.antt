-- What the conversions of a number promise: the letters of code by their places among the twelve, and the texts by their references.
use Rattle.std.specs.Prelude.{◌≡◌, ℕ, ◌≤◌, Result}
use Rattle.std.specs.Result.{MatchResult}
use Rattle.packed.specs.Below.Table.{letter_place}
use Rattle.table.specs.Denote.{letter_of, ref_by}
use Rattle.table.specs.declared.Letter.{Letter}
use Rattle.table.specs.declared.NoLetter.{NoLetter}
use Rattle.table.specs.declared.TextRef.{TextRef}

-- r is the letter at place n, and none where that is past the twelve
abbrev pub AtPlace : ℕ → Result Letter NoLetter → Type 0
AtPlace n r = MatchResult r (λ l. letter_place (letter_of l) ≡ n) (λ e. 12 ≤ n)

-- r is the text that the number v refers to
abbrev pub IsReferred : ℕ → TextRef → Type 0
IsReferred v r = r ≡ ref_by v
