-- What every step keeps: how the store after a step stands to the store before it.
use Rattle.std.specs.Prelude.{◌≡◌, List, ℕ, ◌≤◌, length}
use Rattle.language.specs.Below.Lists.{total}
use Rattle.language.specs.Letters.{Var}
use Rattle.language.specs.Letters.Var.{expression, input, output, file}
use Rattle.language.specs.Program.{Arg}
use Rattle.language.specs.Values.{Component, Store, Inputs}
use Rattle.machine.specs.Arguments.{unread}
use Rattle.machine.specs.WellFormed.{faults, store_faults}
use Rattle.machine.specs.Addresses.{times, uses}

-- as many expressions, files, outputs and read places
pub record Shape (s t : Store) : Type 0 where
  pub exprs : length t.exprs ≡ length s.exprs
  pub files : length t.files ≡ length s.files
  pub outputs : length t.outputs ≡ length s.outputs
  pub places : length t.places ≡ length s.places

-- components without faults, where l is the last address given
abbrev pub Clean : ℕ → List Component → Type 0
Clean l xs = total (faults l) xs ≡ 0

module _ (ins : Inputs) where
  abbrev pub Faultless : Store → Type 0
  Faultless s = store_faults ins s.last s ≡ 0

  -- there are k elements to read
  abbrev pub Enough : Var → Store → Arg → ℕ → Type 0
  Enough expression s a k = Unit {0}
  Enough input s a k = k ≤ length (unread ins s a)
  Enough output s a k = Unit {0}
  Enough file s a k = Unit {0}

  -- records' addresses are distinct, from 1 and given; nothing else in the store is at fault
  pub record Sound (s : Store) : Type 0 where
    pub once : (n : ℕ) → uses n s ≤ 1
    pub from_1 : times 0 s ≡ 0
    pub no_faults : Faultless s

  -- no address is given again: none is in use or to be given more often than before
  pub record Keeps (s t : Store) : Type 0 where
    pub shape : Shape s t
    pub later : s.last ≤ t.last
    pub counts : (n : ℕ) → uses n t ≤ uses n s
    pub no_faults : Faultless s → Faultless t
