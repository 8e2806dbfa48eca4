-- A text while it is read: how the loader keeps the specification's draft.
use Rattle.std.specs.Prelude.{◌≡◌, Bool, true, false, List, map, ℕ, ◌-◌, ◌≤◌, ◌<◌, length, get_or, take}
use Rattle.acceptance.specs.Drafts.{SoundDraft}
use Rattle.words.specs.Keywords.{is_english}
use Rattle.progress.specs.Closing.{TellsClosing, unended}
use Rattle.std.specs.Prelude.{Option}
use Rattle.std.specs.Option.{is_none}
use Rattle.headings.specs.Headings.{NameIn, name_by}
use Rattle.headings.specs.Below.DraftsMarks.{marks_in}
use Rattle.headings.specs.Below.DraftsMarks.{mark, length_by, Marked}
use Rattle.headings.specs.Below.Tabled.{Spelt, Tabled}
use Rattle.language.specs.Limits as limit
use Rattle.layout.specs.Bounds.{Each}
use Rattle.declaring.specs.Below.Names.{names_of}
use Rattle.statements.specs.StatementAt.{fault_of}
use Rattle.syntax.specs.Tables.{Draft, blank, is_first}
use Rattle.progress.specs.declared.Progress.{Progress}

-- the marks of all labels met, and what they name
pub record NamesKept (s : List ℕ) (d : Draft) (count : ℕ) (ms : List ℕ) : Type 0 where
  pub count_is : length d.names ≡ count
  pub names_are : names_of s (take count ms) ≡ d.names
  pub marked : (k : ℕ) → k < count → Marked s (get_or ms k 0)
  pub short : (k : ℕ) → k < count → length_by (get_or ms k 0) ≤ limit.item

-- the last of them wait for their statement
pub record WaitingKept (s : List ℕ) (d : Draft) (count waiting : ℕ) (ms : List ℕ) : Type 0 where
  pub few : waiting ≤ count
  pub size : length d.waiting ≡ waiting
  pub marks : marks_in ms (count - waiting) count ≡ map mark d.waiting
  pub spelt : Each (Spelt s) d.waiting

pub record SectionKept (s : List ℕ) (d : Draft) (section : Option ℕ) : Type 0 where
  pub first_is : is_first d ≡ is_none section
  pub there : NameIn s section
  pub is : name_by s section ≡ d.section

-- the edition; it is the Polish one as long as none is chosen
pub record EditionKept (d : Draft) (english : Bool) : Type 0 where
  pub is : d.english ≡ english
  pub unchosen : is_first d ≡ true → d.english ≡ false

-- g, with the marks ms of the labels, tells the draft d but for its tables
pub record TellsDraft (s : List ℕ) (d : Draft) (g : Progress) (ms : List ℕ) : Type 0 where
  pub section : SectionKept s d g.section
  pub edition : EditionKept d (is_english g.edition)
  pub names : NamesKept s d g.names ms
  pub waiting : WaitingKept s d g.names g.waiting ms
  pub closing : TellsClosing d.closing g.closing
  pub ended : fault_of (unended d.tables.code) ≡ g.ended

-- The draft d of the text s, whose bytes have the lines `lines`: g and ms, the marks of its labels; c, the lent table; sw and en, the marks of switches and entries
pub record Drafted (s lines : List ℕ) (d : Draft) (g : Progress) (ms c sw en : List ℕ) : Type 0 where
  pub sound : SoundDraft (length s) d
  pub tabled : Tabled s lines d.tables c sw en
  pub tells : TellsDraft s d g ms

-- all statements of the draft are before place n
pub record Before (n : ℕ) (d : Draft) : Type 0 where
  pub names_few : length d.names ≤ n
  pub waiting_low : Each (λ i. i.at ≤ n) d.waiting

-- a text of which nothing was read
abbrev pub Begun : Progress → Type 0
Begun g = (s lines ms c sw en : List ℕ) → Tabled s lines blank.tables c sw en → Drafted s lines blank g ms c sw en
