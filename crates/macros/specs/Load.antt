-- Load: "then the written-out text is loaded as if typed".
use Rattle.std.specs.Prelude.{cond, ◌&&◌, List, [], ◌∷◌, ℕ, leb, length}
use Rattle.syntax.specs.Below.Limits as limit
use Rattle.syntax.specs.Ending.{last_place, last_questions}
use Rattle.syntax.specs.Items.{Item, statements_from, line_at}
use Rattle.syntax.specs.Load.{Loaded, program_of, text_loads}
use Rattle.syntax.specs.Load.Loaded.{refused, accepted}
use Rattle.syntax.specs.Questions.{questions}
use Rattle.syntax.specs.Tables.{Tables, Draft, blank, draft_after}
use Rattle.syntax.specs.Verdict.{Verdict, first_no}
use Rattle.syntax.specs.Verdict.Verdict.{yes, refuse}
use Rattle.macros.specs.Prepared.{Prepared, prepared}
use Rattle.macros.specs.Prepared.Prepared.{unfit, ready}

-- the answer to a text made ready
unfoldable pub loaded : Prepared → Loaded
loaded (unfit number line) = refused number line
loaded (ready w ls) = text_loads w ls

-- "Table long enough, text short enough? 40", with the line 0
unfoldable pub load_in : ℕ → List ℕ → Loaded
load_in cells s = cond (leb limit.table cells && leb (length s) limit.text) (loaded (prepared s)) (refused 40 0)

-- with a table that is long enough
abbrev pub load_of : List ℕ → Loaded
load_of s = load_in limit.table s

-- What load makes of bytes whatever lines they have: a refusal with its number and place, or tables; and the answer where they have the lines ls
pub data Outcome : Type 0 where
  refuses : ℕ → ℕ → Outcome
  accepts : Tables → Outcome

unfoldable pub told : List ℕ → Outcome → Loaded
told ls (refuses number at) = refused number (line_at ls at)
told ls (accepts t) = accepted (program_of ls t)

unfoldable pub unless_no : Verdict → Outcome → Outcome
unless_no yes o = o
unless_no (refuse number at) o = refuses number at

unfoldable pub outcome_from : ℕ → Draft → List (List Item) → Outcome
outcome_from last d [] = unless_no (first_no (last_questions last d)) (accepts d.tables)
outcome_from last d (x ∷ xs) = unless_no (first_no (questions d x)) (outcome_from last (draft_after d x) xs)

abbrev pub outcome : List ℕ → Outcome
outcome w = outcome_from (last_place w) blank (statements_from 0 w)
