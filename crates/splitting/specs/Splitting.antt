-- Splitting a word: what ROZBIJ makes of a store, and what its functions ask and tell.
use Rattle.std.specs.Prelude.{◌≡◌, Bool, false, List, map, ℕ, ◌<◌, length, take, Result, Ok, IfOk}
use Rattle.language.specs.Limits as limit
use Rattle.language.specs.Letters.Letter.{E}
use Rattle.language.specs.Values.{Component, Store, State, chars, kind}
use Rattle.machine.specs.Arguments.{expr, first, char, Asks, ◌&◌, needs, Until, taken}
use Rattle.machine.specs.Changes.{minus_unless, into, past}
use Rattle.state.specs.Working.{nth, reading, writing}
use Rattle.table.specs.declared.Argument.{Argument}
use Rattle.instructions.specs.Questions.{told_by}
use Rattle.instructions.specs.declared.Question.{Question}
use Rattle.instructions.specs.Does.{stop_of}
use Rattle.instructions.specs.Fronts.{front_part}
use Rattle.tests.specs.declared.Prepared.{Prepared}
use Rattle.moves.specs.Moves.{TestBeside}
use Rattle.readings.specs.Below.Joining.{WordsJoinable}

-- the characters that u takes of the first word of expression i are words in front; with A the rest of the word goes
unfoldable pub split_up : Until ℕ → Bool → ℕ → Store → Store
split_up u removes i s =
    let w = chars (first (front_part s i)) in
    let r = taken u w in
    minus_unless r.1 (into (nth (writing false) i) (map char (take r.0 w)) (past (nth (reading removes) i) 1 s))

-- ---- what is asked and told

-- the first of some components is a word
pub record FirstWord (xs : List Component) : Type 0 where
  pub some : 0 < length xs
  pub word : kind (first xs) ≡ 0

-- r is the first question answered no of those of a word and those of a test, which p is; or p
pub record WordAsked (s : Store) (i : ℕ) (p r : Result Prepared Question) : Type 0 where
  pub told : (q : Asks) → told_by p ≡ stop_of q → told_by r ≡ stop_of (needs 0 (front_part s i) & q)
  pub is : IfOk r (λ t. p ≡ Ok t)
  pub ready : IfOk r (λ t. FirstWord (expr s (nth E i)))

pub record Splittable (σ : State) (g : List ℕ) (test : Prepared) (i : ℕ) : Type 0 where
  pub beside : TestBeside g test
  pub source : i < limit.expressions
  pub first_word : FirstWord (expr σ.store (nth E i))

-- ROZBIJ of expression i with the test of argument a asks what ZBIJ does
abbrev pub WordSplittable : List ℕ → ℕ → Argument → Type 0
WordSplittable = WordsJoinable
