-- A statement with an instruction comes to the program table: question 11, and the program with it.
use Rattle.std.specs.Prelude.{◌≡◌, List, [], ◌∷◌, ◌++◌, map, ℕ, ◌+◌, ◌≤◌, ◌<◌, T, length, get_or, drop}
use Rattle.argument_cells.specs.Below.Valued.{Valued, ValuesRead}
use Rattle.argument_cells.specs.Below.Value.{Value}
use Rattle.names.specs.Below.Drafting.{draft_arg}
use Rattle.names.specs.Below.DraftsMarks.{place_by, length_by, word_by, Marked}
use Rattle.argument_cells.specs.Below.Entering.{excess, all_added, long_text, large_number, set_texts, set_numbers, Held, ShortItem}
use Rattle.language.specs.Instructions.{operation, operator_of, number_of}
use Rattle.language.specs.Limits as limit
use Rattle.language.specs.Operators.{op_by}
use Rattle.language.specs.Program.{Arg, Instr, Label, Program}
use Rattle.language.specs.Values.{same_number}
use Rattle.layout.specs.Bounds.{Each}
use Rattle.layout.specs.Cells.{cell}
use Rattle.lists.specs.Lists.{bytes_equal}
use Rattle.packed.specs.Packed.{table_of}
use Rattle.statements.specs.StatementAt.{statement_at, fault_of}
use Rattle.statements.specs.Faults.{Fault}
use Rattle.std.specs.Prelude.{None}
use Rattle.syntax.specs.ArgumentForms.{Argument, arguments}
use Rattle.syntax.specs.Questions.{beyond}
use Rattle.syntax.specs.Tables.{number_in}
use Rattle.writing.specs.Writing.{HoldsProgram, kept_arg, label_of, with_instr}
use Rattle.argument_cells.specs.ArgumentCells.{RightArgument}
use Rattle.declaring.specs.declared.Instruction.{Instruction}

-- the number of an instruction's operator
abbrev pub operator_number : Instruction → ℕ
operator_number i = number_of (op_by i.operator)

-- labels come to a program
unfoldable pub with_labels : List Label → Program → Program
with_labels ls p = record { code = p.code; labels = p.labels ++ ls; switches = p.switches; texts = p.texts; numbers = p.numbers }

abbrev pub labels_by : List ℕ → ℕ → List ℕ → List Label
labels_by s target ms = map (λ m. label_of (word_by s m) target) ms

-- marks of names in the text s that have a place in the table
pub record Named (s ms : List ℕ) : Type 0 where
  pub marked : (k : ℕ) → k < length ms → Marked s (get_or ms k 0)
  pub short : (k : ℕ) → k < length ms → length_by (get_or ms k 0) ≤ limit.item

pub record Nameable (s : List ℕ) (m target : ℕ) (c : List ℕ) : Type 0 where
  pub marked : Marked s m
  pub short : length_by m ≤ limit.item
  pub long : limit.table ≤ length c
  pub room : cell (table_of c) 1 < limit.labels
  pub low : target < limit.instructions

pub record Labelling (s ms : List ℕ) (target : ℕ) (c : List ℕ) : Type 0 where
  pub named : Named s ms
  pub held : Held c
  pub room : cell (table_of c) 1 + length ms ≤ limit.labels
  pub low : target < limit.instructions

-- 11, part by part
abbrev pub LabelsTold : List ℕ → List ℕ → Fault → Type 0
LabelsTold c ms r = (p : Program) → HoldsProgram c p → r ≡ fault_of (beyond limit.labels (length p.labels) (map place_by ms))

abbrev pub InstrTold : List ℕ → ℕ → Fault → Type 0
InstrTold c at r = (p : Program) → HoldsProgram c p → r ≡ fault_of (beyond limit.instructions (length p.code) (at ∷ []))

-- the texts and numbers of the statement whose items after the operator begin at n
module _ (s : List ℕ) (n : ℕ) (p : Program) where
  abbrev pub texts_excess : List ℕ
  texts_excess = excess bytes_equal (λ i. i.chars) long_text p.texts (statement_at s n)

  abbrev pub numbers_excess : List ℕ
  numbers_excess = excess same_number number_in large_number p.numbers (statement_at s n)

  unfoldable pub with_values : Program
  with_values =
      set_numbers (all_added same_number number_in large_number p.numbers (statement_at s n))
      (set_texts (all_added bytes_equal (λ i. i.chars) long_text p.texts (statement_at s n)) p)

-- 11, of an instruction whose operator stands at a place, with labels of some marks
unfoldable pub instr_excess : List ℕ → ℕ → ℕ → List ℕ → Program → List ℕ
instr_excess s at n ms p =
    beyond limit.instructions (length p.code) (at ∷ [])
    ++ beyond limit.labels (length p.labels) (map place_by ms)
    ++ texts_excess s n p
    ++ numbers_excess s n p

pub record Judges (s : List ℕ) (at n : ℕ) (ms c : List ℕ) (r : Fault) (d : List ℕ) : Type 0 where
  pub told : (p : Program) → HoldsProgram c p → r ≡ fault_of (instr_excess s at n ms p)
  pub holds : r ≡ None → (p : Program) → HoldsProgram c p → HoldsProgram d (with_values s n p)
  pub beyond_same : drop limit.table d ≡ drop limit.table c

-- of the values v, wherever their items are
abbrev pub JudgesValues : List ℕ → ℕ → List Value → List ℕ → List ℕ → Fault → List ℕ → Type 0
JudgesValues s at v ms c r d = (n : ℕ) (args : List Argument) → Valued s (statement_at s n) args v → Judges s at n ms c r d

-- the instruction of a number at a line, with its arguments from place n on
abbrev pub draft_args : List ℕ → ℕ → ℕ → List Arg
draft_args s n number = map draft_arg (arguments (operator_of number) (statement_at s n))

abbrev pub new_instr : List ℕ → ℕ → ℕ → ℕ → Instr
new_instr s n number line =
    let args = draft_args s n number in
    record { op = operator_of number; line = line; first = get_or args 0 Arg.nothing; second = get_or args 1 Arg.nothing; third = get_or args 2 Arg.nothing }

abbrev pub KeptArgs : List ℕ → ℕ → ℕ → Program → Type 0
KeptArgs s n number p = Each (λ a. T (kept_arg p a)) (draft_args s n number)

-- the program with the labels of some marks and the instruction
unfoldable pub with_labelled : List ℕ → ℕ → ℕ → ℕ → List ℕ → Program → Program
with_labelled s n number line ms p = with_instr (new_instr s n number line) (with_labels (labels_by s (length p.code) ms) p)

-- the values of the arguments from place n on, each of which reads as its form
pub record RightValues (s : List ℕ) (n number : ℕ) (v : List Value) : Type 0 where
  pub numbered : (operation (operator_of number)).number ≡ number
  pub read : ValuesRead s n number v
  pub right : Each RightArgument (arguments (operator_of number) (statement_at s n))

pub record Writable (s : List ℕ) (i : Instruction) (ms c : List ℕ) : Type 0 where
  pub next : ℕ
  pub values : RightValues s next (operator_number i) i.values
  pub held : Held c
  pub named : Named s ms
  pub code_room : cell (table_of c) 0 < limit.instructions
  pub label_room : cell (table_of c) 1 + length ms ≤ limit.labels
  pub line_most : i.line ≤ limit.text

pub record WritesInstr (s : List ℕ) (n number line : ℕ) (ms c d : List ℕ) : Type 0 where
  pub holds : (p : Program) → HoldsProgram c p → KeptArgs s n number p → HoldsProgram d (with_labelled s n number line ms p)
  pub beyond_same : drop limit.table d ≡ drop limit.table c

abbrev pub WritesValues : List ℕ → Instruction → List ℕ → List ℕ → List ℕ → Type 0
WritesValues s i ms c d = (n : ℕ) → RightValues s n (operator_number i) i.values → WritesInstr s n (operator_number i) i.line ms c d

-- what the questions up to 02 gave, of an instruction whose items after the operator begin at `next`, and of the marks of its labels
pub record Declarable (s : List ℕ) (i : Instruction) (ms c : List ℕ) : Type 0 where
  pub next : ℕ
  pub values : RightValues s next (operator_number i) i.values
  pub held : Held c
  pub line_most : i.line ≤ limit.text
  pub named : Named s ms
  pub short : Each ShortItem (statement_at s next)

pub record Declares (s : List ℕ) (i : Instruction) (n : ℕ) (ms c : List ℕ) (r : Fault) (d : List ℕ) : Type 0 where
  pub told : (p : Program) → HoldsProgram c p → r ≡ fault_of (instr_excess s i.at n ms p)
  pub holds : r ≡ None → (p : Program) → HoldsProgram c p → KeptArgs s n (operator_number i) (with_values s n p)
      → HoldsProgram d (with_labelled s n (operator_number i) i.line ms (with_values s n p))
  pub beyond_same : drop limit.table d ≡ drop limit.table c

-- wherever its items after the operator begin
abbrev pub DeclaresValues : List ℕ → Instruction → List ℕ → List ℕ → Fault → List ℕ → Type 0
DeclaresValues s i ms c r d = (n : ℕ) → RightValues s n (operator_number i) i.values → Declares s i n ms c r d
