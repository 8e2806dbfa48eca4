-- Components, records, files and the state (chapter 3 and 4.2 of the manual), and what is read from a component.
use Rattle.std.specs.Prelude.{Bool, true, false, cond, ◌&&◌, ◌||◌, List, [], ◌∷◌, ◌++◌, ℕ, zero, suc, ◌+◌, ◌*◌, ◌-◌, ◌/◌, ◌%◌, leb, ltb, eqb, ℤ, pos, negsuc, neg_ℤ, nat_abs}
use Rattle.std.specs.Int.Signed.{le_z}
use Rattle.language.specs.Limits as limit
use Rattle.characters.specs.Characters.{is_digit, class_of}
use Rattle.characters.specs.Below.Lists.{all, every, bytes_equal, among}

-- a component: a word (its bytes), a number, a record's address
pub data Component : Type 0 where
  word : List ℕ → Component
  number : ℤ → Component
  address : ℕ → Component

pub record Record : Type 0 where
  pub addr : ℕ
  pub parts : List Component

-- the records before the pointer and after it, both in the file's order
pub record File : Type 0 where
  pub before : List Record
  pub after : List Record

-- what instructions work on: the expressions, the files, H, the outputs, the read places of the inputs, the last address given
pub record Store : Type 0 where
  pub exprs : List (List Component)
  pub files : List File
  pub plus : Bool
  pub outputs : List (List ℕ)
  pub places : List ℕ
  pub last : ℕ

-- the state: the store, the next instruction, counted from 0, and the return stack, its top first
pub record State : Type 0 where
  pub store : Store
  pub next : ℕ
  pub stack : List ℕ

-- the two inputs
abbrev pub Inputs : Type 0
Inputs = List (List ℕ)

abbrev pub empty_file : File
empty_file = record { before = []; after = [] }

-- a word's characters, a number's value, an address; nothing of another kind
abbrev pub chars : Component → List ℕ
chars (word w) = w
chars (number z) = []
chars (address n) = []

abbrev pub value : Component → ℤ
value (word w) = pos 0
value (number z) = z
value (address n) = pos 0

abbrev pub link : Component → ℕ
link (word w) = 0
link (number z) = 0
link (address n) = n

-- the kinds: 0 a word, 1 a number, 2 an address
abbrev pub kind : Component → ℕ
kind (word w) = 0
kind (number z) = 1
kind (address n) = 2

abbrev pub same_number : ℤ → ℤ → Bool
same_number x y = le_z x y && le_z y x

-- two components are equal
abbrev pub same_tests : Component → Component → List Bool
same_tests x y = eqb (kind x) (kind y) ∷ bytes_equal (chars x) (chars y) ∷ same_number (value x) (value y) ∷ eqb (link x) (link y) ∷ []

abbrev pub same : Component → Component → Bool
same x y = every (same_tests x y)

-- "A word belongs to a class list when every character of it does; a number or address never does."
abbrev pub of_class : List ℕ → Component → Bool
of_class cs x = eqb (kind x) 0 && all (λ y. among (class_of y) cs) (chars x)

-- The decimal word of a number (5.7.1): no leading zeros, and no + ; a number of the machine has at most 7 digits
abbrev pub digits : ℕ → ℕ → List ℕ
digits zero n = []
digits (suc k) n = elim (ltb n 10) [ true ↦ (48 + n) ∷ [] | false ↦ digits k (n / 10) ++ ((48 + n % 10) ∷ []) ]

abbrev pub decimal : ℤ → List ℕ
decimal (pos n) = digits 7 n
decimal (negsuc n) = 45 ∷ digits 7 (suc n)

-- A word that is "a sign or none, then digits", and its value
abbrev pub amount : ℕ → List ℕ → ℕ
amount n [] = n
amount n (x ∷ xs) = amount (n * 10 + (x - 48)) xs

abbrev pub unsigned : List ℕ → Bool
unsigned [] = false
unsigned (x ∷ xs) = is_digit x && all is_digit xs

abbrev pub numeral : List ℕ → Bool
numeral [] = false
numeral (x ∷ xs) = cond (eqb x 43 || eqb x 45) (unsigned xs) (unsigned (x ∷ xs))

abbrev pub value_of : List ℕ → ℤ
value_of [] = pos 0
value_of (x ∷ xs) = cond (eqb x 45) (neg_ℤ (pos (amount 0 xs))) (cond (eqb x 43) (pos (amount 0 xs)) (pos (amount 0 (x ∷ xs))))

-- "Numbers lie within ±8,388,607."
abbrev pub in_range : ℤ → Bool
in_range z = leb (nat_abs z) limit.size
