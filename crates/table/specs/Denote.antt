-- What the enums of the program table stand for: a letter, and an argument of the program that the cells c read as.
use Rattle.std.specs.Prelude.{Bool, cond, ◌&&◌, ◌||◌, List, [], ◌∷◌, ℕ, ◌+◌, ◌-◌, eqb, leb, ltb, get_or}
use Rattle.packed.specs.Below.Characters.{is_capital}
use Rattle.packed.specs.Below.Letters as letters
use Rattle.packed.specs.Below.Program.{Arg}
use Rattle.packed.specs.Below.Program.Arg.{nothing, letter, label, switch, class, text}
use Rattle.packed.specs.Below.LayoutCells.{uncode}
use Rattle.packed.specs.Below.Table.{class_by, text_in}
use Rattle.table.specs.declared.Letter.{Letter}
use Rattle.table.specs.declared.Letter.TheVariants.{A, B, C, D, E, I, N, P, Q, T, Y, Z}
use Rattle.table.specs.declared.Argument.{Argument}
use Rattle.table.specs.declared.Argument.TheVariants.{Nothing, Indexed, Label, Switch, Class, Text, Number}
use Rattle.table.specs.declared.TextRef.{TextRef}
use Rattle.table.specs.declared.TextRef.TheVariants.{Empty, Byte, Place}

abbrev pub letter_of : Letter → letters.Letter
letter_of A = letters.Letter.A
letter_of B = letters.Letter.B
letter_of C = letters.Letter.C
letter_of D = letters.Letter.D
letter_of E = letters.Letter.E
letter_of I = letters.Letter.I
letter_of N = letters.Letter.N
letter_of P = letters.Letter.P
letter_of Q = letters.Letter.Q
letter_of T = letters.Letter.T
letter_of Y = letters.Letter.Y
letter_of Z = letters.Letter.Z

-- the letter at a place in the list of letters
abbrev pub letter_at : ℕ → letters.Letter
letter_at n = get_or letters.letters n letters.Letter.A

-- whether the number of a code is within 15 in size
abbrev pub is_small : ℕ → Bool
is_small v = leb 8388592 v && leb v 8388622

-- what a number in a cell refers to, and the text of a reference
abbrev pub ref_by : ℕ → TextRef
ref_by v = cond (eqb v 0) Empty (cond (ltb v 256) (Byte v) (Place (v - 256)))

-- the number that refers to a text
abbrev pub ref_number : TextRef → ℕ
ref_number Empty = 0
ref_number (Byte b) = b
ref_number (Place k) = 256 + k

abbrev pub text_of : List ℕ → TextRef → List ℕ
text_of c Empty = []
text_of c (Byte b) = b ∷ []
text_of c (Place k) = text_in c k

-- a class by its mask, a text by its reference, a number by its code
abbrev pub arg_of : List ℕ → Argument → Arg
arg_of c Nothing = nothing
arg_of c (Indexed l n) = letter (letter_of l) n
arg_of c (Label k) = label k
arg_of c (Switch k) = switch k
arg_of c (Class m) = class (class_by c m)
arg_of c (Text r) = text (text_of c r)
arg_of c (Number v) = Arg.number (uncode v)

-- the case of an argument, and that of an argument of a form (a character, as in the table of instructions)
abbrev pub kind : Argument → ℕ
kind Nothing = 0
kind (Indexed l n) = 1
kind (Label k) = 2
kind (Switch k) = 3
kind (Class m) = 4
kind (Text r) = 5
kind (Number v) = 6

abbrev pub kind_of_form : ℕ → ℕ
kind_of_form f =
    cond (eqb f 45) 0 (cond (is_capital f) 1 (cond (eqb f 108) 2 (cond (eqb f 119 || eqb f 120) 3 (cond (eqb f 99) 4 (cond (eqb f 116) 5 6)))))
