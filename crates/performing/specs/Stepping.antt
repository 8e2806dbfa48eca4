-- What a step on the state at work asks and promises: the specification's step of that state.
use Rattle.std.specs.Prelude.{◌≡◌, List, [], ◌∷◌, ℕ, ◌≤◌, T}
use Rattle.language.specs.Values.{State, Inputs}
use Rattle.machine.specs.Runs.{Outcome}
use Rattle.machine.specs.Runs.Outcome.{stop, went}
use Rattle.machine.specs.Steps.{step}
use Rattle.machine.specs.WellFormed.{good_inputs, good_state}
use Rattle.layout.specs.Table.{program_of, good_table}
use Rattle.state.specs.Working.{HoldsState}

-- the two inputs
abbrev pub inputs : List ℕ → List ℕ → Inputs
inputs i j = i ∷ j ∷ []

-- c is a lent table, i and j are the inputs
pub record Steppable (c i j : List ℕ) (σ : State) : Type 0 where
  pub table : T (good_table c)
  pub right : T (good_inputs (inputs i j))
  pub good : T (good_state (program_of c) (inputs i j) σ)

-- the number of a stop, or 0; the state that is left
abbrev pub number_of : Outcome State → ℕ
number_of (stop n) = n
number_of (went t) = 0

abbrev pub state_after : State → Outcome State → State
state_after s (stop n) = s
state_after s (went t) = t

abbrev pub outcome : List ℕ → List ℕ → List ℕ → State → Outcome State
outcome c i j σ = step (program_of c) (inputs i j) σ

pub record Stepped (c i j : List ℕ) (σ : State) (told : ℕ) (σ' : State) : Type 0 where
  pub is : told ≡ number_of (outcome c i j σ)
  pub holds : HoldsState σ' (state_after σ (outcome c i j σ))
  pub most : told ≤ 60
