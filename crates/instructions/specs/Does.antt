-- What the function of an instruction promises: the number of the first question answered no, or 0, and the state that is held then.
use Rattle.std.specs.Prelude.{◌≡◌, Bool, true, cond, ◌&&◌, List, map, ℕ, ◌+◌, ◌≤◌, leb}
use Rattle.state.specs.Below.Limits as limit
use Rattle.state.specs.Below.Program.{Program}
use Rattle.state.specs.Below.LanguageValues.{Store, State, Inputs}
use Rattle.state.specs.Below.LayoutMemory.{components_held, chars_held}
use Rattle.state.specs.Below.Lists.{head_or, if_any}
use Rattle.state.specs.Below.MachineArguments.{Asks}
use Rattle.state.specs.Below.Changes.{fits}
use Rattle.state.specs.Below.Effects.{Row}
use Rattle.state.specs.Below.Steps.{made, Question, numbers, asks_after, refusals}
use Rattle.state.specs.Working.{HoldsState}

-- the questions that a row asks on a state
abbrev pub answered : Row → State → ℕ → Bool
answered r s n = r.0 n && asks_after r s n

abbrev pub asked_of : Row → State → List Question
asked_of r s = map (λ n. (n, answered r s n)) numbers

-- "the first no decides": its number, or 0
abbrev pub answer_of : Row → State → ℕ
answer_of r s = head_or 0 (refusals (asked_of r s))

abbrev pub with_store : Store → State → State
with_store t s = record { store = t; next = s.next; stack = s.stack }

-- the state with what the row makes of its store, or as it was where a question is answered no
abbrev pub kept_of : Row → State → State
kept_of r s = if_any (with_store r.1 s) (λ n. s) (refusals (asked_of r s))

-- the same with the next instruction and the return stack
abbrev pub done_of : Row → State → State
done_of r s = if_any (made r s) (λ n. s) (refusals (asked_of r s))

-- an instruction that goes on to the following one leaves next to its caller
pub record Does (σ : State) (told : ℕ) (σ' : State) (r : Row) : Type 0 where
  pub is : told ≡ answer_of r σ
  pub holds : HoldsState σ' (kept_of r σ)

-- a jump, call or return
pub record Goes (σ : State) (told : ℕ) (σ' : State) (r : Row) : Type 0 where
  pub is : told ≡ answer_of r σ
  pub holds : HoldsState σ' (done_of r σ)

-- ---- rows that ask 52, 53 and 54 alone, beside what every instruction asks

pub record Quiet (q : Asks) : Type 0 where
  pub is_50 : q 50 ≡ true
  pub is_55 : q 55 ≡ true
  pub is_56 : q 56 ≡ true
  pub is_57 : q 57 ≡ true
  pub is_58 : q 58 ≡ true
  pub is_59 : q 59 ≡ true
  pub is_60 : q 60 ≡ true

-- the first no among them
abbrev pub stop_of : Asks → ℕ
stop_of q = cond (q 52) (cond (q 53) (cond (q 54) 0 54) 53) 52

-- an instruction whose questions up to 54 are answered, 53 by `right`: 53, 59, or 0 and the store t
pub record Tried (σ : State) (told : ℕ) (σ' : State) (right : Bool) (t : Store) : Type 0 where
  pub is : told ≡ cond right (cond (fits t) 0 59) 53
  pub holds : HoldsState σ' (cond right (cond (fits t) (with_store t σ) σ) σ)

-- for every program and inputs: most instructions read neither
abbrev pub DoesFor : State → ℕ → State → (Program → Inputs → Row) → Type 0
DoesFor σ told σ' r = (g : Program) (ins : Inputs) → Does σ told σ' (r g ins)

abbrev pub GoesFor : State → ℕ → State → (Program → Inputs → Row) → Type 0
GoesFor σ told σ' r = (g : Program) (ins : Inputs) → Goes σ told σ' (r g ins)

-- for every inputs: an instruction with a label or a switch reads its program
abbrev pub DoesIn : State → ℕ → State → (Inputs → Row) → Type 0
DoesIn σ told σ' r = (ins : Inputs) → Does σ told σ' (r ins)

abbrev pub GoesIn : State → ℕ → State → (Inputs → Row) → Type 0
GoesIn σ told σ' r = (ins : Inputs) → Goes σ told σ' (r ins)

-- whether so many components and characters more have room
abbrev pub has_room : Store → ℕ → ℕ → Bool
has_room s parts chars = leb (components_held s + parts) limit.components && leb (chars_held s + chars) limit.characters

-- whether so many have, where so many are freed before
abbrev pub room_after : Store → ℕ → ℕ → ℕ → ℕ → Bool
room_after s freed_parts freed_chars parts chars =
    leb (components_held s + parts) (limit.components + freed_parts) && leb (chars_held s + chars) (limit.characters + freed_chars)

-- so many components and characters more are asked about
pub record More (parts chars : ℕ) : Type 0 where
  pub parts_most : parts ≤ 65536
  pub chars_most : chars ≤ 65536
