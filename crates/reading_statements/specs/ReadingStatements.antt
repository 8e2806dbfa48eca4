-- What the readers of a statement ask and promise.
use Rattle.std.specs.Prelude.{◌≡◌, true, false, Option, Some, Result, Ok, Err, List, ℕ, ◌≤◌, length, drop}
use Rattle.acceptance.specs.Drafts.{SoundDraft}
use Rattle.drafts.specs.Tabled.{Tabled}
use Rattle.progress.specs.Below.Headings.{FirstLow, Rests, Nameable, AfterTold}
use Rattle.progress.specs.Below.Rest.{Rest}
use Rattle.heads.specs.Heads.{EndedBy, head_keyword, Headed, instr_of, instr_by, is_switch}
use Rattle.heads.specs.declared.Head.{Head}
use Rattle.language.specs.Limits as limit
use Rattle.language.specs.declared.Operator.{Operator}
use Rattle.layout.specs.Bounds.{Each}
use Rattle.progress.specs.Advancing.{SectionTold, Progresses}
use Rattle.progress.specs.Progress.{Drafted, Before}
use Rattle.progress.specs.declared.Progress.{Progress}
use Rattle.statements.specs.StatementAt.{statement_at}
use Rattle.statements.specs.Faults as told
use Rattle.statements.specs.Questions.{question_number}
use Rattle.syntax.specs.Load.{Lined}
use Rattle.syntax.specs.Questions.{questions}
use Rattle.syntax.specs.Tables.{Draft, draft_after}
use Rattle.syntax.specs.Verdict.{Verdict, first_no}
use Rattle.syntax.specs.Verdict.Verdict.{yes, refuse}
use Rattle.reading_statements.specs.Judging.{Judging}
use Rattle.reading_statements.specs.declared.Ending.{Ending}
use Rattle.statements.specs.declared.Refusal.{Refusal}

-- d is the draft of all before the statement at n of the text s, whose bytes have the lines `lines`
pub record Standing (s lines : List ℕ) (n : ℕ) (d : Draft) (g : Progress) (ms c sw en : List ℕ) : Type 0 where
  pub short : length s ≤ limit.text
  pub inside : n ≤ length s
  pub lined : Lined lines
  pub drafted : Drafted s lines d g ms c sw en
  pub before : Before n d

-- and h is its head, with the marks of its labels behind those of the names before
pub record Reading (s lines : List ℕ) (n : ℕ) (d : Draft) (g : Progress) (h : Head) (ms c sw en : List ℕ) : Type 0 where
  pub judging : Judging s n d g h ms
  pub lined : Lined lines
  pub sound : SoundDraft (length s) d
  pub tabled : Tabled s lines d.tables c sw en

abbrev pub Read : Type 0
Read = Result Progress Refusal

abbrev pub read_verdict : Read → Verdict
read_verdict (Ok g) = yes
read_verdict (Err r) = refuse (question_number r.question) r.at

-- what is known after a statement whose verdict is v, where g is left; or its refusal
abbrev pub read_of : told.Verdict → Progress → Read
read_of (Ok u) g = Ok g
read_of (Err r) g = Err r

-- a refusal leaves what was known before as it was
abbrev pub Stays : told.Verdict → Progress → Progress → Type 0
Stays v g g' = (r : Refusal) → v ≡ Err r → g' ≡ g

-- For whatever draft before it, the verdict of all questions of the statement of the head h is told; where it is yes, g' and the cells after are those of
-- the draft after the statement. And where it ends
pub record Reads (s lines : List ℕ) (g : Progress) (h : Head) (ms c sw en : List ℕ) (r : Read) (next : Option ℕ) (c' sw' en' : List ℕ) : Type 0 where
  pub told : (n : ℕ) (d : Draft) → Reading s lines n d g h ms c sw en → read_verdict r ≡ first_no (questions d (statement_at s n))
  pub after : (n : ℕ) (d : Draft) → Reading s lines n d g h ms c sw en → (g' : Progress) → r ≡ Ok g'
      → Drafted s lines (draft_after d (statement_at s n)) g' ms c' sw' en'
  pub ends : (n : ℕ) → Headed s n h → EndedBy s n next
  pub beyond : drop limit.table c' ≡ drop limit.table c

-- some statement is read
pub record Met (s lines : List ℕ) (g : Progress) (h : Head) (ms c sw en : List ℕ) : Type 0 where
  pub place : ℕ
  pub draft : Draft
  pub reading : Reading s lines place draft g h ms c sw en

-- an instruction of an operator; a switch; neither
pub record InstrReadable (s lines : List ℕ) (g : Progress) (h : Head) (o : Operator) (ms c : List ℕ) : Type 0 where
  pub switches : List ℕ
  pub entries : List ℕ
  pub met : Met s lines g h ms c switches entries
  pub is : Some o ≡ instr_by (head_keyword h)

abbrev pub ReadsInstr : List ℕ → List ℕ → Progress → Head → List ℕ → List ℕ → Read → Option ℕ → List ℕ → Type 0
ReadsInstr s lines g h ms c r next c' = (sw en : List ℕ) → Reads s lines g h ms c sw en r next c' sw en

pub record SwitchReadable (s : List ℕ) (g : Progress) (h : Head) (ms c sw en : List ℕ) : Type 0 where
  pub lines : List ℕ
  pub met : Met s lines g h ms c sw en
  pub some : is_switch (head_keyword h) ≡ true

abbrev pub ReadsSwitch : List ℕ → Progress → Head → List ℕ → List ℕ → List ℕ → List ℕ → Read → Option ℕ → List ℕ → List ℕ → List ℕ → Type 0
ReadsSwitch s g h ms c sw en r next c' sw' en' = (lines : List ℕ) → Reads s lines g h ms c sw en r next c' sw' en'

pub record EndingReadable (s : List ℕ) (g : Progress) (h : Head) (ms : List ℕ) : Type 0 where
  pub lines : List ℕ
  pub table : List ℕ
  pub switches : List ℕ
  pub entries : List ℕ
  pub met : Met s lines g h ms table switches entries
  pub no_number : instr_of (head_keyword h) ≡ 0
  pub no_switch : is_switch (head_keyword h) ≡ false

abbrev pub ReadsEnding : List ℕ → Progress → Head → List ℕ → Read → Option ℕ → Type 0
ReadsEnding s g h ms r next = (lines c sw en : List ℕ) → Reads s lines g h ms c sw en r next c sw en

-- ---- a statement, before its head is read

pub record Readable (s lines : List ℕ) (n : ℕ) (g : Progress) (ms c sw en : List ℕ) : Type 0 where
  pub draft : Draft
  pub standing : Standing s lines n draft g ms c sw en

pub record ReadsStatement (s lines : List ℕ) (n : ℕ) (g : Progress) (ms c sw en : List ℕ) (r : Read) (next : Option ℕ) (ms' c' sw' en' : List ℕ) : Type 0 where
  pub told : (d : Draft) → Standing s lines n d g ms c sw en → read_verdict r ≡ first_no (questions d (statement_at s n))
  pub after : (d : Draft) → Standing s lines n d g ms c sw en → (g' : Progress) → r ≡ Ok g' → Drafted s lines (draft_after d (statement_at s n)) g' ms' c' sw' en'
  pub ends : EndedBy s n next
  pub beyond : drop limit.table c' ≡ drop limit.table c

-- ---- after all questions, whose verdict is v

abbrev pub Finishes : Progress → Head → Ending → List ℕ → told.Verdict → Read → Type 0
Finishes g h e ms (Ok u) r = (q : Progress) × ((r ≡ Ok q) × Progresses g h e.section e.after ms q)
Finishes g h e ms (Err f) r = r ≡ Err f

-- ---- what a statement that is neither says

pub record Endable (s : List ℕ) (r : Rest) (section : Option ℕ) : Type 0 where
  pub nameable : Nameable s r.first section
  pub low : FirstLow r.first

abbrev pub EndingTold : List ℕ → Head → Rest → Option ℕ → Ending → Type 0
EndingTold s h r section e =
    (n : ℕ) (w : told.Verdict) → Headed s n h → Rests s h.op w r → n ≤ length s → Each (λ i. length i.chars ≤ limit.item) (statement_at s n)
    → SectionTold s n section e.section × AfterTold s n section e.after
