-- A statement whose head was read, before its questions.
use Rattle.std.specs.Prelude.{◌≡◌, List, ◌++◌, map, ℕ, ◌+◌, ◌-◌, ◌≤◌, length, take}
use Rattle.drafts.specs.Marks.{mark}
use Rattle.heads.specs.Heads.{Headed}
use Rattle.heads.specs.declared.Head.{Head}
use Rattle.language.specs.Limits as limit
use Rattle.layout.specs.Bounds.{Each}
use Rattle.progress.specs.Progress.{TellsDraft, Before}
use Rattle.progress.specs.declared.Progress.{Progress}
use Rattle.statements.specs.StatementAt.{statement_at}
use Rattle.syntax.specs.Statements.{labels_in}
use Rattle.syntax.specs.Tables.{Draft}

-- d is the draft of all before the statement at n, which g and the marks ms tell; h is the statement's head, and the marks of its labels stand behind
-- those of the names before it
pub record Judging (s : List ℕ) (n : ℕ) (d : Draft) (g : Progress) (h : Head) (ms : List ℕ) : Type 0 where
  pub low : length s ≤ limit.text
  pub inside : n ≤ length s
  pub headed : Headed s n h
  pub tells : TellsDraft s d g ms
  pub before : Before n d
  pub short : Each (λ i. length i.chars ≤ limit.item) d.waiting
  pub count_is : h.names ≡ g.names + length (labels_in (statement_at s n))
  pub own : take h.names ms ≡ take g.names ms ++ map mark (labels_in (statement_at s n))

-- where the labels that wait begin
abbrev pub from : Progress → ℕ
from g = g.names - g.waiting
