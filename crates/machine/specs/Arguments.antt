-- What the arguments of an instruction mean (4.2): the values that they offer, what they ask, and the tests of moves (5.1).
use Rattle.std.specs.Prelude.{Bool, true, false, cond, ◌&&◌, List, [], ◌∷◌, ◌++◌, map, ℕ, pred, min, leb, eqb, length, get_or, take, drop, ℤ, pos, negsuc}
use Rattle.std.specs.Int.Signed.{non_neg}
use Rattle.language.specs.Letters.{Var, Reading, Use, use_of}
use Rattle.language.specs.Letters.Letter.{B}
use Rattle.language.specs.Letters.Var.{expression, input, output, file}
use Rattle.language.specs.Letters.Reading.{one, count, any_of, whole}
use Rattle.language.specs.Program.{Arg}
use Rattle.language.specs.Program.Arg.{nothing, letter, label, switch, class, text}
use Rattle.language.specs.Values.{Component, Record, File, Store, Inputs, empty_file, value, kind, same, of_class}
use Rattle.language.specs.Values.Component.{word, address}
use Rattle.language.specs.Below.Lists.{all, any, ahead, filled, head_or, if_any, same_list}

-- an argument's index, or its label's or switch's place
abbrev pub place : Arg → ℕ
place nothing = 0
place (letter l n) = n
place (label n) = n
place (switch n) = n
place (class cs) = 0
place (text t) = 0
place (Arg.number z) = 0

-- its letter's use
abbrev pub use_by : Arg → Use
use_by nothing = use_of B
use_by (letter l n) = use_of l
use_by (label n) = use_of B
use_by (switch n) = use_of B
use_by (class cs) = use_of B
use_by (text t) = use_of B
use_by (Arg.number z) = use_of B

-- Reading the state (4.2.1.1, 4.2.1.3). Variables are counted from 1

abbrev pub at : {X : Type 0} → X → List X → Arg → X
at d xs a = get_or xs (pred (place a)) d

abbrev pub expr : Store → Arg → List Component
expr s a = at [] s.exprs a

abbrev pub file_of : Store → Arg → File
file_of s a = at empty_file s.files a

abbrev pub records : File → List Record
records f = f.before ++ f.after

-- the components of the record after the pointer
abbrev pub next_parts : File → List Component
next_parts f = if_any [] (λ r. r.parts) f.after

-- what is not yet read of an input
abbrev pub unread : Inputs → Store → Arg → List ℕ
unread ins s a = drop (at 0 s.places a) (at [] ins a)

abbrev pub first : List Component → Component
first xs = head_or (word []) xs

-- a character as a word
abbrev pub char : ℕ → Component
char x = word (x ∷ [])

-- The components that an argument offers for comparison and use: A, B and N the first of an expression, T and E all of them, I the first
-- character, P the first of the record after the pointer ("RZ looks at the record after the pointer.")
abbrev pub read_by : Inputs → Store → Arg → Var → Reading → List Component
read_by ins s a expression one = take 1 (expr s a)
read_by ins s a expression count = take 1 (expr s a)
read_by ins s a expression any_of = expr s a
read_by ins s a expression whole = expr s a
read_by ins s a input r = map char (take 1 (unread ins s a))
read_by ins s a output r = []
read_by ins s a file r = take 1 (next_parts (file_of s a))

-- "a text or number argument counts as a component"
abbrev pub side : Inputs → Store → Arg → List Component
side ins s nothing = []
side ins s (letter l n) = read_by ins s (letter l n) (use_of l).var (use_of l).reading
side ins s (label n) = []
side ins s (switch n) = []
side ins s (class cs) = []
side ins s (text t) = word t ∷ []
side ins s (Arg.number z) = Component.number z ∷ []

-- whether a single component is asked for
abbrev pub is_one : Reading → Bool
is_one one = true
is_one count = true
is_one any_of = false
is_one whole = false

abbrev pub is_count : Reading → Bool
is_count one = false
is_count count = true
is_count any_of = false
is_count whole = false

abbrev pub is_whole : Reading → Bool
is_whole one = false
is_whole count = false
is_whole any_of = false
is_whole whole = true

abbrev pub single : Arg → Bool
single nothing = false
single (letter l n) = is_one (use_of l).reading
single (label n) = false
single (switch n) = false
single (class cs) = false
single (text t) = true
single (Arg.number z) = true

-- Questions on a step ("A step. .."): the answer to each number, true for yes. What an instruction does not ask is answered yes

abbrev pub Asks : Type 0
Asks = ℕ → Bool

abbrev pub none : Asks
none n = true

abbrev pub ask : ℕ → Bool → Asks
ask k b n = cond (eqb n k) b true

infixl 40 ◌&◌
abbrev pub ◌&◌ : Asks → Asks → Asks
◌&◌ x y n = x n && y n

-- "Has each expression, and for RZ the file, the component asked for .. ? 52"
abbrev pub present : List Component → Asks
present xs = ask 52 (filled xs)

-- "Is it of the right kind .. ? 53": the first component, if any, is of kind k; two first components are of one kind
abbrev pub is : ℕ → List Component → Asks
is k xs = ask 53 (all (λ x. eqb (kind x) k) (take 1 xs))

abbrev pub alike : List Component → List Component → Asks
alike xs ys = ask 53 (all (λ x. all (λ y. eqb (kind x) (kind y)) (take 1 ys)) (take 1 xs))

-- two operands: 52 of both, then 53, which is yes where the pair of their kinds is listed
abbrev pub listed_pair : List (ℕ × ℕ) → ℕ → ℕ → Bool
listed_pair ks j k = any (λ q. eqb j q.0 && eqb k q.1) ks

abbrev pub of_kinds : List (ℕ × ℕ) → List Component → List Component → Asks
of_kinds ks xs ys = present xs & present ys & ask 53 (listed_pair ks (kind (first xs)) (kind (first ys)))

abbrev pub when : Bool → Asks → Asks
when b x = cond b x none

abbrev pub needs : ℕ → List Component → Asks
needs k xs = present xs & is k xs

-- Tests (5.1.1): up to which element a move takes, how many that are, and whether the test was reached. "A count is 0 or more. Equal to what is
-- there, it is reached."

pub data Until (X : Type 0) : Type 0 where
  everything : Until X
  number_of : ℕ → Until X
  up_to : (X → Bool) → Until X

abbrev pub taken : {X : Type 0} → Until X → List X → ℕ × Bool
taken everything xs = (length xs, true)
taken (number_of n) xs = (min n (length xs), leb n (length xs))
taken (up_to p) xs = (ahead p xs, any p xs)

-- Whether a component is one that the argument of a test or relation means; `trim` cuts what it is compared with. "Tests of moves, and T, treat
-- another kind as not equal. T on an empty expression never holds."
abbrev pub matches : (Component → Component) → Inputs → Store → Arg → Component → Bool
matches trim ins s nothing x = false
matches trim ins s (letter l n) x = any (same x) (map trim (side ins s (letter l n)))
matches trim ins s (label n) x = false
matches trim ins s (switch n) x = false
matches trim ins s (class cs) x = of_class cs x
matches trim ins s (text t) x = same x (trim (word t))
matches trim ins s (Arg.number z) x = same x (Component.number z)

-- a count as a length; a negative one is refused (54)
abbrev pub taking : ℤ → ℕ
taking (pos n) = n
taking (negsuc n) = 0

-- The test that an argument makes on elements: an element is compared by its key, with E by all its parts. "Tests of KOPIUJ, SKRESL and OMIN
-- compare a record's first component, with E the whole record."
module _ {X : Type 0} (key : X → Component) (trim : Component → Component) (parts : X → List Component) (ins : Inputs) (s : Store) where
  abbrev pub by_reading : Reading → Arg → Until X
  by_reading one a = up_to (λ x. matches trim ins s a (key x))
  by_reading count a = number_of (taking (value (first (side ins s a))))
  by_reading any_of a = up_to (λ x. matches trim ins s a (key x))
  by_reading whole a = up_to (λ x. same_list same (parts x) (expr s a))

  abbrev pub test : Arg → Until X
  test nothing = everything
  test (letter l n) = by_reading (use_of l).reading (letter l n)
  test (label n) = everything
  test (switch n) = everything
  test (class cs) = up_to (λ x. of_class cs (key x))
  test (text t) = up_to (λ x. same (key x) (trim (word t)))
  test (Arg.number z) = number_of (taking z)

-- "In tests of characters only the first character of a text or component counts."
abbrev pub cut : Component → Component
cut (word w) = word (take 1 w)
cut (Component.number z) = Component.number z
cut (address n) = address n

-- on components, characters, records
abbrev pub on_parts : Inputs → Store → Arg → Until Component
on_parts ins s c = test (λ x. x) (λ x. x) (λ x. x ∷ []) ins s c

abbrev pub on_chars : Inputs → Store → Arg → Until ℕ
on_chars ins s c = test char cut (λ x. char x ∷ []) ins s c

abbrev pub on_records : Inputs → Store → Arg → Until Record
on_records ins s c = test (λ r. first r.parts) (λ x. x) (λ r. r.parts) ins s c

-- how many elements of the variable of a the test c takes, and whether it was reached
abbrev pub reach : Inputs → Store → Var → Arg → Arg → ℕ × Bool
reach ins s expression a c = taken (on_parts ins s c) (expr s a)
reach ins s input a c = taken (on_chars ins s c) (unread ins s a)
reach ins s output a c = (0, true)
reach ins s file a c = taken (on_records ins s c) (file_of s a).after

-- what a test asks: a component "by B as a test" and "by N" (52), which for N is a number (53) and not negative ("Counts not negative", 54)
abbrev pub test_asks : Inputs → Store → Arg → Asks
test_asks ins s nothing = none
test_asks ins s (letter l n) =
    let xs = side ins s (letter l n) in
    when (single (letter l n)) (present xs) & when (is_count (use_of l).reading) (is 1 xs & ask 54 (non_neg (value (first xs))))
test_asks ins s (label n) = none
test_asks ins s (switch n) = none
test_asks ins s (class cs) = none
test_asks ins s (text t) = none
test_asks ins s (Arg.number z) = ask 54 (non_neg z)
