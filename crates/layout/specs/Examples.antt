-- The examples of docs/LAYOUT.md: the table of a small program, and components and a record in bytes.
use Rattle.std.specs.Prelude.{◌≡◌, refl, true, List, [], ◌∷◌, ℕ, take, drop, negsuc}
use Prim.Native.String.{String}
use Rattle.machine.specs.Below.Quoted.{bytes}
use Rattle.machine.specs.Below.Characters.{known}
use Rattle.machine.specs.Below.Letters.Letter.{A, I, Q}
use Rattle.machine.specs.Below.Program.{Arg, Op, Instr, Program}
use Rattle.machine.specs.Below.Program.Arg.{nothing, letter, label, switch, text}
use Rattle.machine.specs.Below.Program.Op.{CZYTAJ, UMIESC, SKOCZ, SKONA, STOP}
use Rattle.machine.specs.Below.LanguageValues.{Component}
use Rattle.machine.specs.Below.LanguageValues.Component.{word, address}
use Rattle.machine.specs.WellFormed.{listed, good_instr, good_label, good_switch, good_program}
use Rattle.layout.specs.Cells.{fours, code, padded}
use Rattle.layout.specs.Components.{component_bytes, components_bytes, record_bytes}
use Rattle.layout.specs.Table.{switch_cells, table_cells}

abbrev line : ℕ → Op → Arg → Arg → Arg → Instr
line n o x y z = record { op = o; line = n; first = x; second = y; third = z }

abbrev t : String → Arg
t w = text (bytes w)

abbrev p : Program
p =
    record {
      code =
          line 2 CZYTAJ (letter I 1) (letter A 1) (t " ")
          ∷ line 3 SKONA (letter A 1) (switch 0) nothing
          ∷ line 4 UMIESC (t "NIE") (letter Q 1) nothing
          ∷ line 5 UMIESC (Arg.number (negsuc 19)) (letter A 2) nothing
          ∷ line 6 SKOCZ (label 0) nothing nothing
          ∷ line 7 STOP nothing nothing nothing
          ∷ [];
      labels = record { name = bytes "DALEJ"; target = 0 } ∷ record { name = bytes "KONIEC"; target = 5 } ∷ [];
      switches = record { goes_by_name = true; entries = record { label = 1; text = bytes "STOP" } ∷ record { label = 0; text = [] } ∷ [] } ∷ [];
      texts = bytes "NIE" ∷ bytes "STOP" ∷ [];
      numbers = negsuc 19 ∷ [];
    }

-- n cells from place k on
abbrev cells : ℕ → ℕ → List ℕ
cells k n = take n (drop k (table_cells p))

pub record Sample : Type 0 where
  pub good : good_program p ≡ true
  pub counts : cells 0 8 ≡ 6 ∷ 2 ∷ 1 ∷ 2 ∷ 2 ∷ 1 ∷ 0 ∷ 0 ∷ []
  pub first : cells 8 8 ≡ 130 ∷ 2569 ∷ 9 ∷ 261 ∷ 217 ∷ 9 ∷ 3 ∷ 0 ∷ []
  pub third : cells 16 8 ≡ 266 ∷ 2053 ∷ 4105 ∷ 0 ∷ 330 ∷ 254 ∷ 17 ∷ 0 ∷ []
  pub fifth : cells 24 9 ≡ 403 ∷ 2 ∷ 0 ∷ 0 ∷ 489 ∷ 0 ∷ 0 ∷ 0 ∷ 0 ∷ []
  pub label_0 : cells 2056 4 ≡ 5 ∷ 1162625348 ∷ 74 ∷ 0 ∷ []
  pub label_1 : cells 2072 4 ≡ 326 ∷ 1229868875 ∷ 17221 ∷ 0 ∷ []
  pub text_0 : cells 4104 3 ≡ 3 ∷ 4540750 ∷ 0 ∷ []
  pub text_1 : cells 4120 3 ≡ 4 ∷ 1347376211 ∷ 0 ∷ []
  pub switch_0 : cells 6152 2 ≡ 5 ∷ 0 ∷ []
  pub entries : cells 6184 3 ≡ 32897 ∷ 0 ∷ 0 ∷ []
  pub number_0 : cells 6312 2 ≡ 8388587 ∷ 0 ∷ []
  pub a_word : component_bytes (word (bytes "ALA")) ≡ 3 ∷ 65 ∷ 76 ∷ 65 ∷ []
  pub a_number : component_bytes (Component.number (negsuc 19)) ≡ 0 ∷ 1 ∷ 235 ∷ 255 ∷ 127 ∷ []
  pub an_address : component_bytes (address 300) ≡ 0 ∷ 2 ∷ 44 ∷ 1 ∷ 0 ∷ []
  pub a_record : record_bytes (record { addr = 7; parts = word (bytes "ALA") ∷ Component.number (negsuc 19) ∷ [] })
      ≡ 7 ∷ 0 ∷ 0 ∷ 9 ∷ 0 ∷ 3 ∷ 65 ∷ 76 ∷ 65 ∷ 0 ∷ 1 ∷ 235 ∷ 255 ∷ 127 ∷ 9 ∷ 0 ∷ []

pub sample-holds : Sample
unfolding table_cells padded switch_cells fours code component_bytes components_bytes record_bytes good_program good_instr listed good_label good_switch known
sample-holds =
    record {
      good = refl;
      counts = refl;
      first = refl;
      third = refl;
      fifth = refl;
      label_0 = refl;
      label_1 = refl;
      text_0 = refl;
      text_1 = refl;
      switch_0 = refl;
      entries = refl;
      number_0 = refl;
      a_word = refl;
      a_number = refl;
      an_address = refl;
      a_record = refl;
    }
