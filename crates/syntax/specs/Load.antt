-- Load: the questions in order, and the program of an accepted text.
use Rattle.std.specs.Prelude.{cond, List, [], ◌∷◌, map, ℕ, ◌≤◌, ◌<◌, get_or, drop}
use Rattle.language.specs.Limits as limit
use Rattle.language.specs.Below.Characters.{known}
use Rattle.language.specs.Program.{Arg, classes, Instr, Program}
use Rattle.language.specs.Values.{amount, value_of}
use Rattle.language.specs.Below.Lists.{ahead, head_or, bytes_equal}
use Rattle.syntax.specs.ArgumentForms.{form_in, is_index, letter_of, word_reads, reads, Argument, accepting, read_by}
use Rattle.syntax.specs.Ending.{last_place, end_faults, undeclared_labels, undeclared_switches, last_questions}
use Rattle.syntax.specs.Items.{sort_of, Item, ends_text, takes_next, char_of, allows, begins, itself, mode_after, items_at, left_over, read, attach, named, parted, statements, statements_from, line_of, up_from, lines_of, line_at}
use Rattle.syntax.specs.Questions.{first_faults, operator_faults, label_faults, repeated, count_faults, instr_faults, switch_faults, instr_beyond, switch_beyond, questions}
use Rattle.syntax.specs.Statements.{by_keyword, own, reserved, chooses_english, keyword_of, front, behind, keyword_in, one_name, entry_faults, list_faults, entries_in}
use Rattle.syntax.specs.Tables.{Written, Tables, Draft, blank, fresh, with_instr, with_switch, closing_faults, closing_after, draft_after}
use Rattle.syntax.specs.Verdict.{Verdict, lowest, decide, first_no}
use Rattle.syntax.specs.Verdict.Verdict.{yes, refuse}

-- a refusal's number and line, or the program
pub data Loaded : Type 0 where
  refused : ℕ → ℕ → Loaded
  accepted : Program → Loaded

-- The program. A label and a switch become their places in their lists
abbrev pub label_place : Tables → List ℕ → ℕ
label_place t w = ahead (λ l. bytes_equal w l.name) t.labels

abbrev pub switch_place : Tables → List ℕ → ℕ
switch_place t w = ahead (λ c. bytes_equal w c.name) t.switches

unfoldable pub arg_of : Tables → Argument → Arg
arg_of t a =
    let w = a.item.chars in
    cond (form_in "t" a.form) (Arg.text w)
    (cond (form_in "n" a.form) (Arg.number (value_of w))
    (cond (form_in "c" a.form) (Arg.class (classes w))
    (cond (form_in "l" a.form) (Arg.label (label_place t w))
    (cond (form_in "wx" a.form) (Arg.switch (switch_place t w))
    (Arg.letter (letter_of (head_or 0 w)) (amount 0 (drop 1 w)))))))

-- of a text whose bytes have the lines ls
unfoldable pub instr_of : List ℕ → Tables → Written → Instr
instr_of ls t i =
    let args = map (arg_of t) i.args in
    record { op = i.op; line = line_at ls i.at; first = get_or args 0 Arg.nothing; second = get_or args 1 Arg.nothing; third = get_or args 2 Arg.nothing }

unfoldable pub program_of : List ℕ → Tables → Program
program_of ls t =
    record {
      code = map (instr_of ls t) t.code;
      labels = t.labels;
      switches = map (λ c. record { goes_by_name = c.goes_by_name; entries = entries_in (label_place t) c.list }) t.switches;
      texts = t.texts;
      numbers = t.numbers;
    }

-- a verdict on a text whose bytes have the lines ls, before what follows from a yes
unfoldable pub unless_refused : List ℕ → Verdict → Loaded → Loaded
unless_refused ls yes r = r
unless_refused ls (refuse number at) r = refused number (line_at ls at)

-- "Then statement by statement", and at last of the whole text, whose last byte is at a place
unfoldable pub load_from : List ℕ → ℕ → Draft → List (List Item) → Loaded
load_from ls last d [] = unless_refused ls (first_no (last_questions last d)) (accepted (program_of ls d.tables))
load_from ls last d (x ∷ xs) = unless_refused ls (first_no (questions d x)) (load_from ls last (draft_after d x) xs)

-- what is asked of lines: each is a line of a text of at most 32,768 bytes
pub record Lined (ls : List ℕ) : Type 0 where
  pub least : (p : ℕ) → 0 < line_at ls p
  pub most : (p : ℕ) → line_at ls p ≤ limit.text

-- The answer to a text whose bytes have the lines ls, where table and text have the right lengths; and to a text as it stands, with its own lines
abbrev pub text_loads : List ℕ → List ℕ → Loaded
text_loads s ls = load_from ls (last_place s) blank (statements_from 0 s)

abbrev pub load_typed : List ℕ → Loaded
load_typed s = text_loads s (lines_of s)

-- everything that load computes with, to be named on an `unfolding` line
unfoldable pub opened : Unit {0}
unfolding known sort_of ends_text takes_next char_of allows begins itself mode_after items_at left_over read attach named parted statements line_of up_from lines_of by_keyword own reserved chooses_english keyword_of front behind keyword_in one_name entry_faults list_faults entries_in is_index word_reads reads accepting read_by lowest decide first_no fresh with_instr with_switch closing_faults closing_after draft_after first_faults operator_faults label_faults repeated count_faults instr_faults switch_faults instr_beyond switch_beyond questions end_faults undeclared_labels undeclared_switches last_questions arg_of instr_of program_of unless_refused load_from
opened = tt
