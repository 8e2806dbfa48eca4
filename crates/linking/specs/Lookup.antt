-- Names that are used, by their marks in the text s, in a table that holds a program with marks: the labels and switches that they name, and the places
-- of those that name none (questions 12 and 13).
use Rattle.std.specs.Prelude.{◌≡◌, Bool, true, false, cond, not, ◌&&◌, ◌||◌, List, [], ◌∷◌, ◌++◌, map, ℕ, zero, suc, ◌+◌, ◌*◌, ◌/◌, ◌%◌, ◌<◌, ◌≤◌, eqb, length, get_or, take}
use Rattle.std.specs.Bool.{beq}
use Rattle.language.specs.Instructions.{number_of}
use Rattle.language.specs.Limits as limit
use Rattle.language.specs.Program.{Arg, Instr, Op, Switch, Program}
use Rattle.language.specs.Program.Op.{SKONA, WYNA, SZUKAJ}
use Rattle.layout.specs.Kinds.{label_kind, kinds}
use Rattle.layout.specs.Cells.{cell}
use Rattle.layout.specs.Places.{first_instruction, instruction_count, label_count, switch_count}
use Rattle.layout.specs.Table.{arg_cell}
use Rattle.packed.specs.Packed.{table_of}
use Rattle.lists.specs.Lists.{ahead, any, keep, bytes_equal}
use Rattle.drafts.specs.Marks.{place_by, word_by}
use Rattle.statements.specs.StatementAt.{fault_of}
use Rattle.statements.specs.Faults.{Fault}
use Rattle.std.specs.Prelude.{None, Some}
use Rattle.linking.specs.declared.Role.{Role}
use Rattle.linking.specs.declared.Role.TheVariants.{Label, Named, Indexed}
use Rattle.syntax.specs.Verdict.{lowest}
use Rattle.writing.specs.Writing.{HoldsProgram}

-- ---- places

-- the place of the label that the mark m names, and that of the switch among the n switches whose names have the marks sw
abbrev pub label_by : List ℕ → Program → ℕ → ℕ
label_by s p m = ahead (λ l. bytes_equal (word_by s m) l.name) p.labels

abbrev pub switch_by : List ℕ → List ℕ → ℕ → ℕ → ℕ
switch_by s sw n m = ahead (λ x. bytes_equal (word_by s m) (word_by s x)) (take n sw)

-- there is such a label, and such a switch of a type
abbrev pub is_label : List ℕ → Program → ℕ → Bool
is_label s p m = any (λ l. bytes_equal (word_by s m) l.name) p.labels

abbrev pub is_switch : List ℕ → Bool → ℕ → List ℕ → List Switch → Bool
is_switch s named m [] ws = false
is_switch s named m (x ∷ sw) [] = false
is_switch s named m (x ∷ sw) (w ∷ ws) = (bytes_equal (word_by s m) (word_by s x) && beq named w.goes_by_name) || is_switch s named m sw ws

-- ---- what a name is used as: the kind of the arguments that use it so, and whether a switch goes by name; of a label it says nothing

abbrev pub switch_kind : ℕ
switch_kind = get_or kinds 2 0

abbrev pub role_kind : Role → ℕ
role_kind Label = label_kind
role_kind Named = switch_kind
role_kind Indexed = switch_kind

abbrev pub role_named : Role → Bool
role_named Label = true
role_named Named = true
role_named Indexed = false

-- ---- faults

-- the places at fault, after others
abbrev pub joined : Fault → List ℕ → Fault
joined None ps = fault_of ps
joined (Some p) ps = Some (lowest p ps)

-- a name that arguments of a kind use, as a label or as a switch of a type, is there
abbrev pub known : List ℕ → List ℕ → ℕ → Bool → Program → ℕ → Bool
known s sw kind named p m = cond (eqb kind label_kind) (is_label s p m) (is_switch s named m sw p.switches)

abbrev pub faults : List ℕ → List ℕ → ℕ → Bool → Program → List ℕ → List ℕ
faults s sw kind named p ms = map (λ m. place_by m) (keep (λ m. not (known s sw kind named p m)) ms)

-- the mark in the cell of an argument, where it is of a kind
abbrev pub marks_in : ℕ → ℕ → List ℕ
marks_in kind x = cond (eqb (x % 8) kind) (x / 8 ∷ []) []

abbrev pub argument : ℕ → Instr → Arg
argument zero i = i.first
argument (suc zero) i = i.second
argument (suc (suc j)) i = i.third

abbrev pub instr_marks : ℕ → Program → Instr → List ℕ
instr_marks kind p i =
    marks_in kind (arg_cell p i.first) ++ (marks_in kind (arg_cell p i.second) ++ marks_in kind (arg_cell p i.third))

-- the operators whose instructions take a switch by name
abbrev pub names_number : ℕ → Bool
names_number n = eqb n (number_of SKONA) || (eqb n (number_of WYNA) || eqb n (number_of SZUKAJ))

-- the marks of an instruction that are used in a way: all labels, and the switches by its operator's number
abbrev pub asked_by : ℕ → Bool → ℕ → Bool
asked_by kind named n = eqb kind label_kind || beq named (names_number n)

abbrev pub asked : ℕ → Bool → Op → Bool
asked kind named o = asked_by kind named (number_of o)

unfoldable pub instr_uses : ℕ → Bool → Program → Instr → List ℕ
instr_uses kind named p i = cond (asked kind named i.op) (instr_marks kind p i) []

-- ---- what is asked

-- the cells c hold some program
pub record Asking (c : List ℕ) : Type 0 where
  pub program : Program
  pub holds : HoldsProgram c program

-- and it has an instruction k
pub record AskingAt (c : List ℕ) (k : ℕ) : Type 0 where
  pub asking : Asking c
  pub there : k < length asking.program.code

-- with its argument j
pub record AskingFor (c : List ℕ) (k j : ℕ) : Type 0 where
  pub at : AskingAt c k
  pub place : j < 3

-- the operator of instruction k
abbrev pub operator_in : List ℕ → ℕ → ℕ
operator_in c k = cell (table_of c) (first_instruction + 4 * k) % 64

-- what is known of those cells, and of the marks sw of the switches' names, whatever that program is: how many marks there are; how many instructions,
-- labels and switches there are at most; and that each instruction has an operator
pub record Bounded (c sw : List ℕ) : Type 0 where
  pub room : length sw ≡ limit.switches
  pub code_most : cell (table_of c) instruction_count ≤ limit.instructions
  pub labels_most : cell (table_of c) label_count ≤ limit.labels
  pub switches_most : cell (table_of c) switch_count ≤ limit.switches
  pub operators : (k : ℕ) → k < cell (table_of c) instruction_count → (0 < operator_in c k) × (operator_in c k ≤ 41)

-- ---- what is promised

-- r is what f tells of whatever program the cells c hold
pub record Judges {X : Type 0} (c : List ℕ) (f : Program → X) (r : X) : Type 0 where
  pub is : (p : Program) → HoldsProgram c p → r ≡ f p
