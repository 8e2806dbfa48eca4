-- Texts and numbers of a statement that come to the tables: "different texts longer than one character", "different numbers beyond 15 in size".
use Rattle.std.specs.Prelude.{◌≡◌, Result, IfErr, is_ok, Bool, true, false, cond, not, ◌&&◌, List, [], ◌∷◌, ◌++◌, map, ℕ, ◌≤◌, leb, ltb, length, drop, ℤ, nat_abs}
use Rattle.arguments.specs.Valued.{NamesText, ItemValued, Valued}
use Rattle.arguments.specs.declared.Value.{Value}
use Rattle.language.specs.Limits as limit
use Rattle.language.specs.Program.{Program}
use Rattle.language.specs.Values.{same_number, numeral}
use Rattle.layout.specs.Bounds.{Each}
use Rattle.lists.specs.Lists.{any, keep, bytes_equal}
use Rattle.statements.specs.StatementAt.{fault_of}
use Rattle.statements.specs.Faults.{Fault}
use Rattle.std.specs.Prelude.{None}
use Rattle.syntax.specs.ArgumentForms.{Argument as Argument-read}
use Rattle.syntax.specs.Items.{Item, is, places}
use Rattle.syntax.specs.Items.Sort.{word, text}
use Rattle.syntax.specs.Questions.{beyond}
use Rattle.syntax.specs.Tables.{fresh, number_in}
use Rattle.arguments.specs.declared.Quoted.{Quoted}
use Rattle.arguments.specs.declared.ReadArgument.{ReadArgument}
use Rattle.writing.specs.Writing.{no_program, HoldsProgram, IsNumber}

-- one value at a table of at most 128: the table with it, and whether it has no room
module _ {X : Type 0} (equal : X → X → Bool) where
  abbrev pub added : X → List X → List X
  added x t = cond (any (equal x) t) t (t ++ (x ∷ []))

  abbrev pub full : X → List X → Bool
  full x t = not (any (equal x) t) && leb 128 (length t)

-- the items of a row that pass: the places beyond the limit, and the table with all their values
module _ {X : Type 0} (equal : X → X → Bool) (value_of_lem : Item → X) (passes : Item → Bool) where
  abbrev pub excess : List X → List Item → List ℕ
  excess t js = beyond 128 (length t) (places (fresh equal value_of_lem t (keep passes js)))

  abbrev pub all_added : List X → List Item → List X
  all_added t js = t ++ map value_of_lem (fresh equal value_of_lem t (keep passes js))

-- a text, and a number, that has a place in a table of its own
abbrev pub long_text : Item → Bool
long_text i = is text i && ltb 1 (length i.chars)

abbrev pub large_number : Item → Bool
large_number i = is word i && numeral i.chars && ltb limit.small (nat_abs (number_in i))

-- the program with other texts, and with other numbers
unfoldable pub set_texts : List (List ℕ) → Program → Program
set_texts t p = record { code = p.code; labels = p.labels; switches = p.switches; texts = t; numbers = p.numbers }

unfoldable pub set_numbers : List ℤ → Program → Program
set_numbers t p = record { code = p.code; labels = p.labels; switches = p.switches; texts = p.texts; numbers = t }

-- the cells c hold some program
pub record Held (c : List ℕ) : Type 0 where
  pub program : Program
  pub holds : HoldsProgram c program

-- an item is short
abbrev pub ShortItem : Item → Type 0
ShortItem i = length i.chars ≤ limit.item

-- the cells d hold p with some other table
pub record Still {X : Type 0} (set-table : List X → Program → Program) (p : Program) (d : List ℕ) : Type 0 where
  pub table : List X
  pub holds : HoldsProgram d (set-table table p)

-- Of the items js, whatever program p the cells c hold: the places in excess are told; where there is none, the cells d hold p with all values added, and else with some of them
pub record Enters {X : Type 0} (equal : X → X → Bool) (value_of_lem : Item → X) (passes : Item → Bool) (table_of : Program → List X) (set-table : List X → Program → Program)
    (js : List Item) (c : List ℕ) (r : Fault) (d : List ℕ) : Type 0 where
  pub told : (p : Program) → HoldsProgram c p → r ≡ fault_of (excess equal value_of_lem passes (table_of p) js)
  pub holds : r ≡ None → (p : Program) → HoldsProgram c p → HoldsProgram d (set-table (all_added equal value_of_lem passes (table_of p) js) p)
  pub still : (p : Program) → HoldsProgram c p → Still set-table p d
  pub beyond_same : drop limit.table d ≡ drop limit.table c

-- one item of the statement: whether it is told to have a place, and the cells with its value
pub record EntersOne {X : Type 0} (equal : X → X → Bool) (value_of_lem : Item → X) (passes : Item → Bool) (table_of : Program → List X) (set-table : List X → Program → Program)
    (i : Item) (c : List ℕ) (r : Bool) (d : List ℕ) : Type 0 where
  pub told : (p : Program) → HoldsProgram c p → r ≡ not (passes i && full equal (value_of_lem i) (table_of p))
  pub holds : r ≡ true → (p : Program) → HoldsProgram c p
      → HoldsProgram d (set-table (cond (passes i) (added equal (value_of_lem i) (table_of p)) (table_of p)) p)
  pub same : r ≡ false → d ≡ c
  pub beyond_same : drop limit.table d ≡ drop limit.table c

-- one value
pub record Adds {X : Type 0} (equal : X → X → Bool) (table_of : Program → List X) (set-table : List X → Program → Program) (x : X) (c : List ℕ) (r : Bool) (d : List ℕ) : Type 0 where
  pub told : (p : Program) → HoldsProgram c p → r ≡ not (full equal x (table_of p))
  pub holds : r ≡ true → (p : Program) → HoldsProgram c p → HoldsProgram d (set-table (added equal x (table_of p)) p)
  pub same : r ≡ false → d ≡ c
  pub beyond_same : drop limit.table d ≡ drop limit.table c

pub record Addable (c : List ℕ) (n : ℕ) : Type 0 where
  pub held : Held c
  pub short : n ≤ limit.item

-- whatever number has this code
abbrev pub AddsCode : ℕ → List ℕ → Bool → List ℕ → Type 0
AddsCode n c r d = (z : ℤ) → IsNumber n z no_program → Adds same_number (λ p. p.numbers) set_numbers z c r d

-- a text of some short item
pub record EnterableText (s : List ℕ) (q : Quoted) (c : List ℕ) : Type 0 where
  pub item : Item
  pub text_is : is text item ≡ true
  pub names : NamesText s q item.chars
  pub short : ShortItem item
  pub held : Held c

-- the value x of some short item
pub record EnterableValue (s : List ℕ) (x : ReadArgument) (c : List ℕ) : Type 0 where
  pub item : Item
  pub valued : ItemValued s item x
  pub short : ShortItem item
  pub held : Held c

-- the values v of some short items
pub record EnterableValues (s : List ℕ) (v : List Value) (c : List ℕ) : Type 0 where
  pub items : List Item
  pub args : List Argument-read
  pub valued : Valued s items args v
  pub short : Each ShortItem items
  pub held : Held c

-- the same, of some text
pub record SomeValues (v : List Value) (c : List ℕ) : Type 0 where
  pub text : List ℕ
  pub enterable : EnterableValues text v c

-- whatever item is the text q; where it is told to have no place in the table, its place in the text is told
pub record QuotedEntered (s : List ℕ) (q : Quoted) (c : List ℕ) (r : Result (Unit {0}) ℕ) (d : List ℕ) : Type 0 where
  pub place : IfErr r (λ p. p ≡ q.at)
  pub enters : (i : Item) → is text i ≡ true → NamesText s q i.chars → EntersOne bytes_equal (λ j. j.chars) long_text (λ p. p.texts) set_texts i c (is_ok r) d

-- whatever item has the value x, and whatever items have the values v

abbrev pub TextEntered : List ℕ → ReadArgument → List ℕ → Bool → List ℕ → Type 0
TextEntered s x c r d = (i : Item) → ItemValued s i x → EntersOne bytes_equal (λ j. j.chars) long_text (λ p. p.texts) set_texts i c r d

abbrev pub NumberEntered : ReadArgument → List ℕ → Bool → List ℕ → Type 0
NumberEntered x c r d =
    (s : List ℕ) (i : Item) → ItemValued s i x → EntersOne same_number number_in large_number (λ p. p.numbers) set_numbers i c r d

abbrev pub TextsEntered : List ℕ → List Value → List ℕ → Fault → List ℕ → Type 0
TextsEntered s v c r d =
    (js : List Item) (args : List Argument-read) → Valued s js args v → Enters bytes_equal (λ j. j.chars) long_text (λ p. p.texts) set_texts js c r d

abbrev pub NumbersEntered : List Value → List ℕ → Fault → List ℕ → Type 0
NumbersEntered v c r d =
    (s : List ℕ) (js : List Item) (args : List Argument-read) → Valued s js args v → Enters same_number number_in large_number (λ p. p.numbers) set_numbers js c r d
