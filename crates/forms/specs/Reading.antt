-- Reading an argument: its form, and the lists of the instruction that are left.
use Rattle.std.specs.Prelude.{Bool, true, false, cond, List, map, ℕ, Option, None, Some, eqb, take, drop}
use Rattle.std.specs.Int.Bits.{bit_and}
use Rattle.language.specs.Program.{Op}
use Rattle.words.specs.Below.ArgumentForms.{alternatives}
use Rattle.forms.specs.Forms.{set_at, only}
use Rattle.forms.specs.Letters.{letter}
use Rattle.forms.specs.declared.Live.{Live}
use Rattle.forms.specs.declared.Taken.{Taken}

abbrev pub lives_first : Live → Bool
lives_first Live.First = true
lives_first Live.Second = false
lives_first Live.Both = true

abbrev pub lives_second : Live → Bool
lives_second Live.First = false
lives_second Live.Second = true
lives_second Live.Both = true

-- of an instruction's lists, those that live
abbrev pub chosen : {X : Type 0} → Live → List X → List X
chosen Live.First xs = take 1 xs
chosen Live.Second xs = drop 1 xs
chosen Live.Both xs = xs

-- what is left of them from a place on
abbrev pub lists_at : Op → Live → ℕ → List (List (List ℕ))
lists_at o live place = map (drop place) (chosen live (alternatives o))

-- the forms that an item shares with a list's place, where the list lives
unfoldable pub shared : Bool → ℕ → ℕ → ℕ
shared lives kinds set = cond lives (bit_and kinds set) 0

-- the letter of the form that an argument is read by, - for none, and the lists that are left
pub record Reads : Type 0 where
  pub form : ℕ
  pub live : Live

-- an argument that shares a with the first list and b with the second
unfoldable pub taken : Live → ℕ → ℕ → Reads
taken live a b =
    cond (eqb a 0)
    (cond (eqb b 0) (record { form = 45; live = live }) (record { form = only b; live = Live.Second }))
    (cond (eqb b 0) (record { form = only a; live = Live.First }) (record { form = only a; live = Live.Both }))

-- a form, and what is taken, where one is found
abbrev pub if_form : ℕ → Option ℕ
if_form f = cond (eqb f 45) None (Some f)

abbrev pub read_as : Taken → Reads
read_as t = record { form = letter t.form; live = t.live }

abbrev pub if_taken : Reads → Option Reads
if_taken t = cond (eqb t.form 45) None (Some t)

-- an argument at a place of the instruction of a number, by the set of forms that it reads as
unfoldable pub taken_at : ℕ → Live → ℕ → ℕ → Reads
taken_at n live place kinds =
    taken live (shared (lives_first live) kinds (set_at n 0 place)) (shared (lives_second live) kinds (set_at n 1 place))
