-- What is told of the component in front of an expression.
use Rattle.std.specs.Prelude.{◌≡◌, List, ℕ, ◌<◌, length, take, Result, IfOk}
use Rattle.std.specs.Borrow.{Bor}
use Rattle.state.specs.Below.Letters.Letter.{E}
use Rattle.state.specs.Below.LanguageValues.{Component, Store, State, kind}
use Rattle.state.specs.Below.MachineArguments.{expr, needs}
use Rattle.state.specs.Below.Components.{component_in}
use Rattle.state.specs.Working.{Stands, nth}
use Rattle.state.specs.Blocks.{ExprLent}
use Rattle.instructions.specs.Questions.{told_by}
use Rattle.instructions.specs.declared.Question.{Question}
use Rattle.instructions.specs.Does.{stop_of}

-- the first component of expression i, if it has one
abbrev pub front_part : Store → ℕ → List Component
front_part s i = take 1 (expr s (nth E i))

-- x are the bytes of expression i, and a component of kind k stands in front
pub record FrontLent (σ : State) (i k : ℕ) (x : List ℕ) : Type 0 where
  pub lent : ExprLent σ i x
  pub some : 0 < length x
  pub kind_is : kind (component_in x) ≡ k

-- 52 or 53, or those bytes
pub record FrontOf (σ : State) (i k : ℕ) (r : Result (Bor (List ℕ)) Question) : Type 0 where
  pub stands : Stands σ
  pub told : told_by r ≡ stop_of (needs k (front_part σ.store i))
  pub is : IfOk r (λ x. FrontLent σ i k x.now)
