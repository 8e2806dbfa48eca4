-- What the instructions that move components and characters ask. c is the table, i and j are the inputs.
use Rattle.std.specs.Prelude.{List, [], ◌∷◌, ℕ, T}
use Rattle.lists.specs.Lists.{among}
use Rattle.language.specs.Instructions.{number_of}
use Rattle.language.specs.Program.{Op}
use Rattle.language.specs.Program.Op.{PRZESLIJ, CZYTAJ, PISZ, USUN, ZBIJ, ROZBIJ, SZUKAJ}
use Rattle.language.specs.Values.{State}
use Rattle.performing.specs.Places.{PerformingAt}

-- the numbers of their operators
abbrev pub movers : List ℕ
movers = number_of PRZESLIJ ∷ number_of CZYTAJ ∷ number_of PISZ ∷ number_of USUN ∷ number_of ZBIJ ∷ number_of ROZBIJ ∷ number_of SZUKAJ ∷ []

-- any of them, in place k
pub record Moving (c i j : List ℕ) (σ : State) (op : Op) (k : ℕ) : Type 0 where
  pub performing : PerformingAt c i j σ op k
  pub mover : T (among (number_of op) movers)
