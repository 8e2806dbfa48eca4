-- Sets of argument forms as numbers, a bit for each form.
use Rattle.std.specs.Prelude.{◌≡◌, Bool, false, cond, List, [], ◌∷◌, map, ℕ, ◌+◌, ◌*◌, ◌^◌, eqb, length, get_or}
use Rattle.language.specs.Instructions.{operation, operators, is_call, is_end}
use Rattle.language.specs.Program.{Op}
use Rattle.lists.specs.Lists.{ahead, head_or, if_any, keep, among}
use Rattle.lists.specs.Quoted.{bytes}
use Rattle.words.specs.Below.ArgumentForms.{alternatives, most, least}
use Rattle.forms.specs.declared.Forms.{Forms}

-- the forms, by their bits
abbrev pub forms : List ℕ
forms = bytes "ABCDEINPQTYZnctlwx-"

abbrev pub bits : List Bool → ℕ
bits [] = 0
bits (b ∷ bs) = bits bs * 2 + cond b 1 0

-- the set of the forms that pass
abbrev pub mask : (ℕ → Bool) → ℕ
mask p = bits (map p forms)

-- the set of a row of forms
abbrev pub set_of : List ℕ → ℕ
set_of fs = mask (λ f. among f fs)

-- the set of one form
abbrev pub bit_of : ℕ → ℕ
bit_of f = 2 ^ ahead (eqb f) forms

abbrev pub nothing : ℕ
nothing = bit_of 45

-- f of the operator with a number; z where there is none
abbrev pub by_number : {X : Type 0} → X → (Op → X) → ℕ → X
by_number z f n = if_any z f (keep (λ o. eqb n (operation o).number) operators)

-- the forms that an instruction lists at a place, by one of its lists
abbrev pub listed : Op → ℕ → ℕ → List ℕ
listed o list place = get_or (get_or (alternatives o) list []) place []

-- its set
unfoldable pub set_at : ℕ → ℕ → ℕ → ℕ
set_at n list place = by_number 0 (λ o. set_of (listed o list place)) n

-- p has the sets of the three places of a list, of an instruction and by the number of an operator
abbrev pub sets : List Forms → List ℕ
sets p = map (λ f. f.bits) p

unfoldable pub SetsOf : Op → ℕ → List Forms → Type 0
SetsOf o list p = sets p ≡ set_of (listed o list 0) ∷ set_of (listed o list 1) ∷ set_of (listed o list 2) ∷ []

abbrev pub Sets : ℕ → ℕ → List Forms → Type 0
Sets n list p = sets p ≡ set_at n list 0 ∷ set_at n list 1 ∷ set_at n list 2 ∷ []

-- how many lists an instruction has; how many arguments it takes at most, and at least
unfoldable pub lists_of : ℕ → ℕ
lists_of n = by_number 0 (λ o. length (operation o).forms) n

unfoldable pub most_of : ℕ → ℕ
most_of n = by_number 0 most n

unfoldable pub least_of : ℕ → ℕ
least_of n = by_number 0 least n

-- whether it calls; whether it never goes on to the following one
unfoldable pub calls : ℕ → Bool
calls n = by_number false (λ o. is_call (operation o).flow) n

unfoldable pub ends : ℕ → Bool
ends n = by_number false (λ o. is_end (operation o).flow) n

-- the form of a set of one; - of any other set
unfoldable pub only : ℕ → ℕ
only s = head_or 45 (keep (λ f. eqb s (bit_of f)) forms)
