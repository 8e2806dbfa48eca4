-- What RZ asks, and what is told of the record after a file's pointer.
use Rattle.std.specs.Prelude.{◌≡◌, Bool, cond, List, ℕ, ◌<◌, take}
use Rattle.lists.specs.Lists.{same_list}
use Rattle.language.specs.Limits as limit
use Rattle.language.specs.Letters.Letter.{P}
use Rattle.language.specs.Values.{Store, same}
use Rattle.machine.specs.Arguments.{use_by, file_of, next_parts, is_whole, taken}
use Rattle.layout.specs.Bounds.{WholeComponents}
use Rattle.layout.specs.Components.{components_in}
use Rattle.state.specs.Working.{nth}
use Rattle.table.specs.Denote.{arg_of}
use Rattle.table.specs.declared.Argument.{Argument}
use Rattle.comparands.specs.Offers.{Holdable}
use Rattle.equality.specs.Equality.{until_by, OtherArgument}

-- the bytes x are the record after the pointer of file i
pub record NextLent (s : Store) (i : ℕ) (x : List ℕ) : Type 0 where
  pub whole : WholeComponents x
  pub is : components_in x ≡ next_parts (file_of s (nth P i))

-- whether an argument means a whole record, whatever the table
abbrev pub Wholes : Argument → Bool → Type 0
Wholes a r = (c : List ℕ) → r ≡ is_whole (use_by (arg_of c a)).reading

-- a record and the components beside
pub record Meetable (x g : List ℕ) (a : Argument) : Type 0 where
  pub left : WholeComponents x
  pub right : WholeComponents g
  pub form : OtherArgument a

-- whether the record x, or its first component, is what the argument means
abbrev pub Meets : List ℕ → List ℕ → Argument → Bool → Type 0
Meets x g a r =
    (c : List ℕ)
    → r
    ≡ cond (is_whole (use_by (arg_of c a)).reading) (same_list same (components_in x) (components_in g)) (taken (until_by a g) (take 1 (components_in x))).1

pub record RecordRelatable (c : List ℕ) (i : ℕ) (a : Argument) : Type 0 where
  pub other : Holdable c a
  pub source : i < limit.files
