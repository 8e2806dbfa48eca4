-- Document 01's sample and the program that it is.
use Rattle.std.specs.Prelude.{List, [], ◌∷◌, ℕ}
use Rattle.language.specs.Letters.Letter.{A, Q}
use Rattle.language.specs.Program.{Program}
use Rattle.language.specs.Program.Arg.{nothing, letter, text}
use Rattle.language.specs.Program.Op.{PISZ, UMIESC, STOP}
use Rattle.language.specs.Below.Quoted.{bytes}

abbrev pub sample_text : List ℕ
sample_text = bytes "SEKCJA S\nUMIESC 'AB',A1\nPISZ A1,Q1\nSTOP\nKONS\nKONP S\n"

abbrev pub sample : Program
sample =
    record {
      code =
          record { op = UMIESC; line = 2; first = text (bytes "AB"); second = letter A 1; third = nothing }
          ∷ record { op = PISZ; line = 3; first = letter A 1; second = letter Q 1; third = nothing }
          ∷ record { op = STOP; line = 4; first = nothing; second = nothing; third = nothing }
          ∷ [];
      labels = [];
      switches = [];
      texts = bytes "AB" ∷ [];
      numbers = [];
    }
