-- The questions of a statement before its arguments, and what the functions that ask them promise.
use Rattle.std.specs.Prelude.{◌≡◌, Bool, true, cond, List, ◌++◌, ℕ}
use Rattle.judging.specs.Below.Names.{names_of, repeated_by, reserved_by}
use Rattle.statements.specs.Checks.{worst}
use Rattle.statements.specs.Faults.{verdict_of, decided, then}
use Rattle.statements.specs.Groups.{item_questions, head_questions, name_questions}
use Rattle.statements.specs.Faults as told
use Rattle.heads.specs.Heads.{Headed}
use Rattle.heads.specs.declared.Head.{Head}
use Rattle.progress.specs.declared.Progress.{Progress}
use Rattle.statements.specs.StatementAt.{statement_at, fault_of}
use Rattle.statements.specs.Faults.{Fault}
use Rattle.syntax.specs.Items.{Item}
use Rattle.syntax.specs.Questions.{first_faults, operator_faults}
use Rattle.syntax.specs.Tables.{Draft, is_first}
use Rattle.syntax.specs.Verdict.{Question, Verdict, first_no}
use Rattle.reading_statements.specs.Judging.{Judging}

-- 00 of the first statement x, 10 of a later one in a section of an edition
abbrev pub operator_verdict : List Item → Bool → Bool → Verdict
operator_verdict x first english = cond first (decided 0 (fault_of (first_faults x))) (decided 10 (fault_of (operator_faults english x)))

-- the fault of 00 is `zero`, where the statement is the first
abbrev pub ZeroTold : Bool → List Item → Fault → Type 0
ZeroTold first x zero = first ≡ true → zero ≡ fault_of (first_faults x)

abbrev pub OperatorAsked : Head → Bool → Bool → Fault → told.Verdict → Type 0
OperatorAsked h first english zero r =
    (s : List ℕ) (n : ℕ) → Headed s n h → ZeroTold first (statement_at s n) zero → verdict_of r ≡ operator_verdict (statement_at s n) first english

-- 06 and 70 of labels of a text s, by their marks, behind those of the marks bs
abbrev pub names_verdict : List ℕ → List ℕ → List ℕ → Verdict
names_verdict s bs ms = then (decided 6 (fault_of (repeated_by s (names_of s bs) ms))) (decided 70 (fault_of (reserved_by s ms)))

-- 14, 15 and 16, whose verdict is w, 00 or 10, 08, 06 and 70
abbrev pub opening_questions : Draft → List Item → List Question
opening_questions d x = item_questions x ++ (head_questions d x ++ name_questions d x)

pub record HeadAskable (s : List ℕ) (w : told.Verdict) (g : Progress) (h : Head) (ms : List ℕ) : Type 0 where
  pub place : ℕ
  pub draft : Draft
  pub judging : Judging s place draft g h ms
  pub worst_is : w ≡ worst (statement_at s place)

abbrev pub HeadAsked : List ℕ → told.Verdict → Progress → Head → List ℕ → Fault → told.Verdict → Type 0
HeadAsked s w g h ms zero r =
    (n : ℕ) (d : Draft) → Judging s n d g h ms → w ≡ worst (statement_at s n) → ZeroTold (is_first d) (statement_at s n) zero
    → verdict_of r ≡ first_no (opening_questions d (statement_at s n))
