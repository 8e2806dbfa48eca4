-- How the arguments of an instruction stand in one list of its forms.
use Rattle.std.specs.Prelude.{Bool, true, not, ◌&&◌, ◌||◌, List, [], ◌∷◌, ℕ, zero, suc, leb, ltb, eqb, drop}
use Rattle.layout.specs.Below.Lists.{all, filled, head_or, among}
use Rattle.layout.specs.Below.ListsTableLaws.{up_to}
use Rattle.layout.specs.Below.Program.{Op}
use Rattle.macros.specs.Below.ArgumentForms.{form_in, Argument, alternatives, most, least}

-- each argument's form is listed for its place, and the places after them may be empty
abbrev pub fits : List Argument → List (List ℕ) → Bool
fits [] a = all (among 45) a
fits (x ∷ xs) a = among x.form (head_or [] a) && fits xs (drop 1 a)

-- no item reads as both forms: one is a text's, or they are two letters
abbrev pub apart : ℕ → ℕ → Bool
apart x y =
    (form_in "t" x && not (form_in "t" y)) || (form_in "t" y && not (form_in "t" x))
    || (form_in "ABCDEINPQTYZ" x && form_in "ABCDEINPQTYZ" y && not (eqb x y))

-- of two lists of forms, with n arguments: what a place but the last one takes by the first list, it takes in the same form by the second or not at all
abbrev pub agree : ℕ → List (List ℕ) → List (List ℕ) → Bool
agree zero a b = true
agree (suc zero) a b = true
agree (suc (suc n)) a b = all (λ x. among x (head_or [] b) || all (apart x) (head_or [] b)) (head_or [] a) && agree (suc n) (drop 1 a) (drop 1 b)

abbrev pub agreed : ℕ → List (List (List ℕ)) → Bool
agreed n alts = all (λ a. all (agree n a) alts) alts

abbrev pub may_end : ℕ → List (List (List ℕ)) → Bool
may_end n alts = filled alts && all (λ a. all (among 45) (drop n a)) alts

-- with as many arguments as it takes, an instruction's lists agree
abbrev pub right_number : Op → ℕ → Bool
right_number op n = ltb n (least op) || (ltb (most op) n || (may_end n (alternatives op) && agreed n (alternatives op)))

abbrev pub right_forms : Op → Bool
right_forms op = leb (most op) 3 && up_to (right_number op) 4
