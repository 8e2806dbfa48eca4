-- No word means two instructions, in either edition or across them.
use Rattle.std.specs.Prelude.{Bool, not, ◌||◌, T, eqb}
use Rattle.language.specs.Instructions.{operation, operators}
use Rattle.language.specs.Program.{Op}
use Rattle.characters.specs.Below.Lists.{all, bytes_equal}
use Rattle.characters.specs.Below.Quoted.{bytes}

-- two instructions are one, or share no word
abbrev apart : Op → Op → Bool
apart o p =
    eqb (operation o).number (operation p).number
    || not (bytes_equal (bytes (operation o).name) (bytes (operation p).name) || bytes_equal (bytes (operation o).english) (bytes (operation p).english)
    || bytes_equal (bytes (operation o).name) (bytes (operation p).english))

pub no-word-twice : T (all (λ o. all (apart o) operators) operators)
no-word-twice = tt
