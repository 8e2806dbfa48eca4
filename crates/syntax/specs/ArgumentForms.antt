-- How an argument is read by its place, from the forms listed there (the table of instructions).
use Rattle.std.specs.Prelude.{Bool, cond, not, ◌&&◌, List, [], ◌∷◌, map, ℕ, leb, ltb, eqb, length, drop}
use Prim.Native.String.{String}
use Rattle.language.specs.Instructions.{operation}
use Rattle.language.specs.Letters.{Letter, letters, letter_code, indices, use_of}
use Rattle.language.specs.Letters.Letter.{A}
use Rattle.language.specs.Program.{identifier, Op}
use Rattle.language.specs.Values.{amount, unsigned, numeral, value_of, in_range}
use Rattle.language.specs.Below.Lists.{all, any, filled, head_or, keep, bytes_equal, among}
use Rattle.language.specs.Below.Quoted.{bytes}
use Rattle.syntax.specs.Items.{Item, is}
use Rattle.syntax.specs.Items.Sort.{colon, text}

-- a form is one of those in a row
abbrev pub form_in : String → ℕ → Bool
form_in t f = among f (bytes t)

-- an index: "without leading zeros", from 1
unfoldable pub is_index : ℕ → List ℕ → Bool
is_index most w = unsigned w && ltb 48 (head_or 0 w) && leb (amount 0 w) most

-- an indexed letter; the letter of a byte
abbrev pub is_indexed : List ℕ → Letter → Bool
is_indexed w l = eqb (head_or 0 w) (letter_code l) && is_index (indices (use_of l).var) (drop 1 w)

abbrev pub letter_of : ℕ → Letter
letter_of b = head_or A (keep (λ l. eqb b (letter_code l)) letters)

-- whether a word reads as an argument of a form: "index and number in range"
unfoldable pub word_reads : List ℕ → ℕ → Bool
word_reads w f =
    cond (form_in "n" f) (numeral w && in_range (value_of w))
    (cond (form_in "c" f) (filled w && all (λ b. among b (bytes "LDBR")) w)
    (cond (form_in "lwx" f) (identifier w)
    (any (λ l. eqb f (letter_code l) && is_indexed w l) letters)))

unfoldable pub reads : Item → ℕ → Bool
reads i f = cond (is text i) (form_in "t" f) (word_reads i.chars f)

-- an argument, and its form: - where it is not listed
pub record Argument : Type 0 where
  pub item : Item
  pub form : ℕ

-- the lists of forms of an instruction, place by place
abbrev pub alternatives : Op → List (List (List ℕ))
alternatives op = map (λ f. bytes f.0 ∷ bytes f.1 ∷ bytes f.2 ∷ []) (operation op).forms

-- the alternatives whose first place takes the item
unfoldable pub accepting : Item → List (List (List ℕ)) → List (List (List ℕ))
accepting i alts = keep (λ a. any (reads i) (head_or [] a)) alts

-- The arguments from left to right. Each leaves the alternatives that take it, and one that none takes leaves them all
unfoldable pub read_by : List (List (List ℕ)) → List Item → List Argument
read_by alts [] = []
read_by alts (i ∷ js) =
    let live = accepting i alts in
    record { item = i; form = head_or 45 (keep (reads i) (head_or [] (head_or [] live))) }
    ∷ read_by (map (drop 1) (cond (filled live) live alts)) js

-- the arguments among the items after an operator: all but the colons
abbrev pub arguments_in : List Item → List Item
arguments_in js = keep (λ i. not (is colon i)) js

abbrev pub arguments : Op → List Item → List Argument
arguments op js = read_by (alternatives op) (arguments_in js)

-- those of some forms
abbrev pub of_form : String → List Argument → List Item
of_form fs args = map (λ a. a.item) (keep (λ a. form_in fs a.form) args)

-- how many arguments an instruction takes at most, and at least, by any of its lists
abbrev pub most : Op → ℕ
most op = length (keep (λ f. not (bytes_equal f (bytes "-"))) (head_or [] (alternatives op)))

abbrev pub least : Op → ℕ
least op = length (keep (λ f. not (among 45 f)) (head_or [] (alternatives op)))
