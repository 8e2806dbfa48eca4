-- The state at work: its strings and its eight scalars, and what a value of it holds.
use Rattle.std.specs.Prelude.{◌≡◌, Bool, true, false, cond, List, [], ◌∷◌, ◌++◌, reverse, ℕ, suc, length, get_or}
use Rattle.state.specs.declared.Scalars.{Scalars}
use Rattle.store.specs.Below.Lists.{total}
use Rattle.store.specs.Below.Letters.{Letter}
use Rattle.store.specs.Below.Letters.Letter.{A, B, C, D, Z}
use Rattle.store.specs.Below.Program.{Arg}
use Rattle.store.specs.Below.Program.Arg.{letter}
use Rattle.store.specs.Below.LanguageValues.{Component, Record, File, Store, State, chars}
use Rattle.store.specs.Below.LayoutBounds.{Fine}
use Rattle.store.specs.Below.LayoutMemory.{scalars, strings, state_by}

-- strings t and scalars n are those of the state s
pub record Lies (t : List (List ℕ)) (n : List ℕ) (s : State) : Type 0 where
  pub strings_is : t ≡ strings s
  pub numbers : n ≡ scalars s
  pub fine : Fine s

-- the scalars as a value has them, in the order in which they lie at rest
abbrev pub row_of : Scalars → List ℕ
row_of n = cond n.plus 1 0 ∷ get_or n.places 0 0 ∷ get_or n.places 1 0 ∷ n.next ∷ n.last ∷ n.components ∷ n.characters ∷ n.records ∷ []

-- they are those of a state
abbrev pub LiesSo : List (List ℕ) → List ℕ → Type 0
LiesSo t n = Lies t n (state_by t n)

-- a value is the state s, which is fine
pub record HoldsState (w s : State) : Type 0 where
  pub is : w ≡ s
  pub fine : Fine s

abbrev pub Stands : State → Type 0
Stands w = HoldsState w w

-- a change of the store alone
unfoldable pub on_store : (Store → Store) → State → State
on_store f s = record { store = f s.store; next = s.next; stack = s.stack }

-- variable i by a letter
abbrev pub nth : Letter → ℕ → Arg
nth l i = letter l (suc i)

-- the letters that read components, removing them or not; that write them in their order, at the end or in front; and that do both with records,
-- the first removing them and turning them round
abbrev pub reading : Bool → Letter
reading true = A
reading false = B

abbrev pub writing : Bool → Letter
writing true = Z
writing false = B

abbrev pub filing : Bool → Letter
filing true = C
filing false = D

-- turned round or not
abbrev pub turned : {X : Type 0} → Bool → List X → List X
turned b xs = cond b (reverse xs) xs

-- a file with records right after its pointer, or right before it
abbrev pub filed : Bool → List Record → File → File
filed true rs f = record { before = f.before; after = rs ++ f.after }
filed false rs f = record { before = f.before ++ rs; after = f.after }

-- how many characters components have; how many components and characters records have
-- A line each, as in `matching` and `records`: the lowest crate that all name is components, whose definitions this file would pass on to all above.
abbrev pub char_count : List Component → ℕ
char_count xs = total (λ x. length (chars x)) xs

abbrev pub part_total : List Record → ℕ
part_total rs = total (λ r. total (λ x. 1) r.parts) rs

abbrev pub char_total : List Record → ℕ
char_total rs = total (λ r. char_count r.parts) rs
