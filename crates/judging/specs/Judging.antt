-- The questions of a statement on its operator and its labels, by its head.
use Rattle.std.specs.Prelude.{◌≡◌, Bool, not, ◌&&◌, ◌||◌, List, map, ℕ, ◌≤◌, length}
use Rattle.drafts.specs.Marks.{mark}
use Rattle.heads.specs.Heads.{bars, head_keyword, Headed}
use Rattle.heads.specs.declared.Head.{Head}
use Rattle.language.specs.Limits as limit
use Rattle.layout.specs.Bounds.{Each}
use Rattle.statements.specs.Faults.{Fault}
use Rattle.statements.specs.StatementAt.{statement_at, stops, fault_of}
use Rattle.syntax.specs.Items.{Item}
use Rattle.syntax.specs.Questions.{operator_faults, label_faults}
use Rattle.words.specs.Keywords.{is_own}

-- an operator that may not stand in a statement after the first, in a section of an edition
abbrev pub is_barred : Bool → Head → Bool
is_barred english h = not (stops h.op.sort) && (bars (head_keyword h) || is_own (not english) h.known)

-- 10, in a section of the English edition or of the Polish one
abbrev pub OperatorFault : Head → Bool → Fault → Type 0
OperatorFault h english r = (s : List ℕ) (n : ℕ) → Headed s n h → r ≡ fault_of (operator_faults english (statement_at s n))

-- 08, whatever labels have these marks
abbrev pub LabelFault : Head → List ℕ → Fault → Type 0
LabelFault h ms r =
    (s : List ℕ) (n : ℕ) → Headed s n h → (ls : List Item) → map mark ls ≡ ms → Each (λ l. length l.chars ≤ limit.item) ls
    → r ≡ fault_of (label_faults ls (statement_at s n))
