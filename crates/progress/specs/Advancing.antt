-- What is known of a text after a statement without fault, and what the functions that tell it ask and promise.
use Rattle.std.specs.Prelude.{◌≡◌, List, map, ℕ, ◌-◌, ◌≤◌, length}
use Rattle.acceptance.proofs.RowLaws.{Answered}
use Rattle.progress.specs.Closing.{TellsClosing, unended}
use Rattle.headings.specs.Below.DraftsMarks.{marks_in}
use Rattle.headings.specs.Below.DraftsMarks.{mark}
use Rattle.headings.specs.Below.Tabled.{Spelt}
use Rattle.headings.specs.Headings.{AfterTold}
use Rattle.headings.specs.Below.Heads.{Headed}
use Rattle.headings.specs.Below.Head.{Head}
use Rattle.language.specs.Limits as limit
use Rattle.layout.specs.Bounds.{Each}
use Rattle.progress.specs.Progress.{NamesKept, SectionKept, EditionKept, TellsDraft}
use Rattle.progress.specs.declared.Progress.{Progress}
use Rattle.statements.specs.StatementAt.{statement_at, fault_of}
use Rattle.statements.specs.Faults.{Fault}
use Rattle.std.specs.Prelude.{Option}
use Rattle.syntax.specs.Questions.{questions}
use Rattle.syntax.specs.Tables.{Draft, all_labels, draft_after}
use Rattle.words.specs.Keywords.{is_english}

-- the name of the section
abbrev pub SectionTold : List ℕ → ℕ → Option ℕ → Option ℕ → Type 0
SectionTold s n section r =
    (d : Draft) → SectionKept s d section → Answered (questions d (statement_at s n)) → SectionKept s (draft_after d (statement_at s n)) r

-- the place of the last instruction, where a text may not end with it
abbrev pub EndedTold : List ℕ → ℕ → Fault → Fault → Type 0
EndedTold s n ended r =
    (d : Draft) → fault_of (unended d.tables.code) ≡ ended → fault_of (unended (draft_after d (statement_at s n)).tables.code) ≡ r

abbrev pub ToldEnded : Head → Fault → Fault → Type 0
ToldEnded h ended r = (s : List ℕ) (n : ℕ) → Headed s n h → EndedTold s n ended r

-- of the names, those that wait are the last; those of the statement come behind them
pub record Advanceable (g : Progress) (h : Head) (ms : List ℕ) : Type 0 where
  pub few : g.waiting ≤ g.names
  pub order : g.names ≤ h.names
  pub most : h.names ≤ length ms

-- the draft d of what is before the statement at n; all names with those of the statement are kept already
pub record Advancing (s : List ℕ) (n : ℕ) (d : Draft) (g : Progress) (ms : List ℕ) (a b : ℕ) : Type 0 where
  pub answered : Answered (questions d (statement_at s n))
  pub section : SectionKept s d g.section
  pub edition : EditionKept d (is_english g.edition)
  pub names : NamesKept s (draft_after d (statement_at s n)) b ms
  pub marks : marks_in ms a b ≡ map mark (all_labels d (statement_at s n))
  pub spelt : Each (Spelt s) (all_labels d (statement_at s n))
  pub short : Each (λ i. length i.chars ≤ limit.item) (all_labels d (statement_at s n))
  pub closing : TellsClosing d.closing g.closing
  pub ended : fault_of (unended d.tables.code) ≡ g.ended

abbrev pub Advances : List ℕ → ℕ → Progress → List ℕ → ℕ → ℕ → Progress → Type 0
Advances s n g ms a b r = (d : Draft) → Advancing s n d g ms a b → TellsDraft s (draft_after d (statement_at s n)) r ms

-- whatever the statement is, where its head, the section's name and what follows KONS or KONP are told
abbrev pub Progresses : Progress → Head → Option ℕ → Fault → List ℕ → Progress → Type 0
Progresses g h section after ms r =
    (s : List ℕ) (n : ℕ) → Headed s n h → SectionTold s n g.section section → AfterTold s n g.section after
    → Advances s n g ms (g.names - g.waiting) h.names r
