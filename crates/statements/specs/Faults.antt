-- Faults and verdicts as the code tells them, and those of the specification.
use Rattle.std.specs.Prelude.{ℕ, min, Option, None, Some, Result, Ok, Err}
use Rattle.std.specs.Ordering.{nat_cmp, ordering_then, ord_min}
use Rattle.std.specs.declared.cmp.Ordering.{Ordering}
use Rattle.lexer.specs.Below.SyntaxVerdict as spec
use Rattle.statements.specs.declared.Question.{Question}
use Rattle.statements.specs.declared.Refusal.{Refusal}
use Rattle.statements.specs.Questions.{question_number}

-- no place at fault, or the lowest of those that are
abbrev pub Fault : Type 0
Fault = Option ℕ

-- all are answered yes, or the first no
abbrev pub Verdict : Type 0
Verdict = Result (Unit {0}) Refusal

-- of two questions' faults, the lower
abbrev pub lower : Fault → Fault → Fault
lower None b = b
lower (Some p) None = Some p
lower (Some p) (Some q) = Some (min p q)

abbrev pub verdict_of : Verdict → spec.Verdict
verdict_of (Ok u) = spec.Verdict.yes
verdict_of (Err r) = spec.Verdict.refuse (question_number r.question) r.at

-- one question alone
abbrev pub decided : ℕ → Fault → spec.Verdict
decided number None = spec.Verdict.yes
decided number (Some p) = spec.Verdict.refuse number p

-- a verdict, and where it is yes another
abbrev pub then : spec.Verdict → spec.Verdict → spec.Verdict
then spec.Verdict.yes v = v
then (spec.Verdict.refuse number at) v = spec.Verdict.refuse number at

-- the first no
abbrev pub no : Question → ℕ → Verdict
no question at = Err (record { question = question; at = at })

-- two refusals by their numbers, and then by their places
abbrev pub refusal_cmp : Refusal → Refusal → Ordering
refusal_cmp r q = ordering_then (nat_cmp (question_number r.question) (question_number q.question)) (nat_cmp r.at q.at)

-- of two verdicts the refusal that comes first
abbrev pub worse : Verdict → Verdict → Verdict
worse (Ok u) w = w
worse (Err r) (Ok u) = Err r
worse (Err r) (Err q) = Err (ord_min refusal_cmp r q)
