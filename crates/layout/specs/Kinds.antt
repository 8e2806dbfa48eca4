-- The kinds of arguments in the cells of a program table. The same numbers are constants of a type in src/, and `places` there ties the two.
use Rattle.std.specs.Prelude.{List, [], ◌∷◌, ℕ, ◌%◌}
use Rattle.std.proofs.Math.IntN.ℤ.{pos}
use Rattle.machine.specs.Below.Letters.Letter.{A}
use Rattle.machine.specs.Below.Program.{Arg}
use Rattle.machine.specs.Below.Program.Arg.{letter, label, switch, class, text}
use Rattle.layout.specs.Table.{arg_cell}

abbrev kind_of : Arg → ℕ
kind_of a = arg_cell (record { code = []; labels = []; switches = []; texts = []; numbers = [] }) a % 8

abbrev pub label_kind : ℕ
label_kind = kind_of (label 0)

-- those of a letter, a label, a switch, a class, a text and a number, here one that is not small
abbrev pub kinds : List ℕ
kinds = kind_of (letter A 0) ∷ label_kind ∷ kind_of (switch 0) ∷ kind_of (class []) ∷ kind_of (text []) ∷ kind_of (Arg.number (pos 16)) ∷ []
