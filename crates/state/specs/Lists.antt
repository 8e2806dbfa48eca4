-- The same over lists: p, e and n are pool, ends and scalars.
use Rattle.std.specs.Prelude.{◌≡◌, List, ℕ}
use Rattle.store.specs.Below.LanguageValues.{State}
use Rattle.store.specs.Below.LayoutBounds.{Fine}
use Rattle.store.specs.Below.LayoutMemory.{scalars, strings, state_by}
use Rattle.store.specs.Below.Pool.{abs, Holds}

unfoldable pub state_at : List ℕ → List ℕ → List ℕ → State
state_at p e n = state_by (abs p e) n

pub record HoldsLists (p e n : List ℕ) (s : State) : Type 0 where
  pub holds : Holds p e (strings s)
  pub numbers : n ≡ scalars s
  pub fine : Fine s
