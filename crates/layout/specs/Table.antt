-- The program table: the 8,192 cells of a program, and the program that cells read as (docs/LAYOUT.md has the same in words).
use Rattle.std.specs.Prelude.{Bool, cond, ◌&&◌, List, [], ◌∷◌, ◌++◌, map, ℕ, ◌+◌, ◌*◌, ◌-◌, ◌/◌, ◌%◌, leb, ltb, eqb, length, get_or, take, drop, replicate, ℤ, nat_abs}
use Rattle.machine.specs.Below.Limits as limit
use Rattle.machine.specs.Below.Lists.{ahead, each, bytes_equal, among}
use Rattle.machine.specs.Below.Instructions.{operation, operator_of}
use Rattle.machine.specs.Below.Letters.{Letter, letters, letter_code}
use Rattle.machine.specs.Below.Letters.Letter.{A}
use Rattle.machine.specs.Below.Program.{Arg, Instr, Label, Entry, Switch, Program}
use Rattle.machine.specs.Below.Program.Arg.{nothing, letter, label, switch, class, text}
use Rattle.machine.specs.Below.LanguageValues.{same_number}
use Rattle.machine.specs.WellFormed.{good_program}
use Rattle.layout.specs.Cells.{cell, fours, unfours, code, uncode, tab, padded}
use Rattle.layout.specs.Places as layout

-- ---- writing

-- a letter's place in the list of letters
abbrev pub letter_place : Letter → ℕ
letter_place l = ahead (λ x. eqb (letter_code l) (letter_code x)) letters

-- a class: L 1, D 2, B 4, R 8
abbrev pub class_bit : List ℕ → ℕ → ℕ → ℕ
class_bit cs b n = cond (among b cs) n 0

abbrev pub class_mask : List ℕ → ℕ
class_mask cs = class_bit cs 76 1 + class_bit cs 68 2 + class_bit cs 66 4 + class_bit cs 82 8

-- a text: 0 for none, its byte for one character, otherwise the count of those and its place in the table of texts
abbrev pub text_ref : Program → List ℕ → ℕ
text_ref p t = cond (leb (length t) 1) (cell t 0) (layout.short_texts + ahead (bytes_equal t) p.texts)

-- a number: its value + 15 within ±15, otherwise the count of those and its place in the table of numbers
abbrev pub number_ref : Program → ℤ → ℕ
number_ref p z = cond (leb (nat_abs z) limit.small) (code z - 8388592) (layout.small_numbers + ahead (same_number z) p.numbers)

-- an argument: its kind and, eightfold, its value
abbrev pub arg_cell : Program → Arg → ℕ
arg_cell p nothing = 0
arg_cell p (letter l n) = 1 + 8 * (n + 64 * letter_place l)
arg_cell p (label k) = 2 + 8 * k
arg_cell p (switch k) = 3 + 8 * k
arg_cell p (class cs) = 4 + 8 * class_mask cs
arg_cell p (text t) = 5 + 8 * text_ref p t
arg_cell p (Arg.number z) = 6 + 8 * number_ref p z

-- an instruction: its operator's number and, 64-fold, its line; three arguments
abbrev pub instr_cells : Program → Instr → List ℕ
instr_cells p i = ((operation i.op).number + 64 * i.line) ∷ arg_cell p i.first ∷ arg_cell p i.second ∷ arg_cell p i.third ∷ []

-- a label: its name's length and, 64-fold, its target; the name. A text: its length; its characters
abbrev pub label_cells : Label → List ℕ
label_cells l = (length l.name + 64 * l.target) ∷ fours 15 l.name

abbrev pub text_cells : List ℕ → List ℕ
text_cells t = length t ∷ fours 15 t

-- a switch: 1 for NAZWA, twice the count of its entries, 512-fold the first of them
abbrev pub switch_cell : ℕ → Switch → ℕ
switch_cell from w = cond w.goes_by_name 1 0 + 2 * length w.entries + 512 * from

unfoldable pub switch_cells : ℕ → List Switch → List ℕ
switch_cells from [] = []
switch_cells from (w ∷ ws) = switch_cell from w ∷ switch_cells (from + length w.entries) ws

-- an entry: its label and, 128-fold, its text
abbrev pub entry_cell : Program → Entry → ℕ
entry_cell p e = e.label + 128 * text_ref p e.text

abbrev pub all_entries : Program → List Entry
all_entries p = each (λ w. w.entries) p.switches

abbrev pub counts : Program → List ℕ
counts p =
    length p.code ∷ length p.labels ∷ length p.switches ∷ length (all_entries p) ∷ length p.texts ∷ length p.numbers ∷ 0 ∷ 0 ∷ []

-- "unused cells are zero"
unfoldable pub table_cells : Program → List ℕ
table_cells p =
    counts p
    ++ (padded 2048 (each (instr_cells p) p.code)
    ++ (padded 2048 (each label_cells p.labels)
    ++ (padded 2048 (each text_cells p.texts)
    ++ (padded 32 (switch_cells 0 p.switches)
    ++ (padded 128 (map (entry_cell p) (all_entries p))
    ++ (padded 128 (map code p.numbers)
    ++ replicate 1752 0))))))

-- ---- reading

module _ (c : List ℕ) where
  -- text k and number k of the tables
  abbrev pub chars_in : ℕ → ℕ → List ℕ
  chars_in n at = take n (unfours (take 15 (drop at c)))

  abbrev pub text_in : ℕ → List ℕ
  text_in k = chars_in (cell c (layout.first_text + 16 * k)) (layout.first_characters + 16 * k)

  abbrev pub number_in : ℕ → ℤ
  number_in k = uncode (cell c (layout.first_number + k))

  abbrev pub text_by : ℕ → List ℕ
  text_by v = cond (eqb v 0) [] (cond (ltb v layout.short_texts) (v ∷ []) (text_in (v - layout.short_texts)))

  abbrev pub number_by : ℕ → ℤ
  number_by v = cond (ltb v layout.small_numbers) (uncode (v + 8388592)) (number_in (v - layout.small_numbers))

  abbrev pub class_by : ℕ → List ℕ
  class_by v =
      cond (eqb (v % 2) 1) (76 ∷ []) [] ++ (cond (eqb (v / 2 % 2) 1) (68 ∷ []) [] ++ (cond (eqb (v / 4 % 2) 1) (66 ∷ []) [] ++ cond (eqb (v / 8 % 2) 1) (82 ∷ []) []))

  abbrev pub arg_by : ℕ → ℕ → Arg
  arg_by kind v =
      cond (eqb kind 1) (letter (get_or letters (v / 64) A) (v % 64))
      (cond (eqb kind 2) (label v)
      (cond (eqb kind 3) (switch v)
      (cond (eqb kind 4) (class (class_by v))
      (cond (eqb kind 5) (text (text_by v))
      (cond (eqb kind 6) (Arg.number (number_by v))
      nothing)))))

  abbrev pub arg_in : ℕ → Arg
  arg_in k = arg_by (cell c k % 8) (cell c k / 8)

  abbrev pub instr_in : ℕ → Instr
  instr_in i =
      let k = layout.first_instruction + 4 * i in
      record { op = operator_of (cell c k % 64); line = cell c k / 64; first = arg_in (1 + k); second = arg_in (2 + k); third = arg_in (3 + k) }

  abbrev pub label_in : ℕ → Label
  label_in i = let k = layout.first_label + 16 * i in record { name = chars_in (cell c k % 64) (1 + k); target = cell c k / 64 }

  abbrev pub entry_in : ℕ → Entry
  entry_in k = let x = cell c (layout.first_entry + k) in record { label = x % 128; text = text_by (x / 128) }

  abbrev pub switch_in : ℕ → Switch
  switch_in i =
      let x = cell c (layout.first_switch + i) in
      record { goes_by_name = eqb (x % 2) 1; entries = tab (x / 2 % 256) (λ k. entry_in (x / 512 + k)) }

  unfoldable pub program_in : Program
  program_in =
      record {
        code = tab (cell c layout.instruction_count) instr_in;
        labels = tab (cell c layout.label_count) label_in;
        switches = tab (cell c layout.switch_count) switch_in;
        texts = tab (cell c layout.text_count) text_in;
        numbers = tab (cell c layout.number_count) number_in;
      }

-- ---- question 62

-- the program of a lent table; "cells beyond are neither read nor written"
unfoldable pub program_of : List ℕ → Program
program_of c = program_in (take limit.table c)

-- "Table well formed": its cells are those of the program that they read as, and that program is well formed
unfoldable pub good_table : List ℕ → Bool
good_table c =
    leb limit.table (length c) && bytes_equal (table_cells (program_of c)) (take limit.table c) && good_program (program_of c)
