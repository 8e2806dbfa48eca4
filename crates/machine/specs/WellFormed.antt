-- Well-formed programs, inputs and states: questions 62, 61 and 63; and the state that start makes.
use Rattle.std.specs.Prelude.{Bool, true, not, cond, ◌&&◌, ◌||◌, List, [], ◌∷◌, ◌++◌, map, ℕ, pred, ◌+◌, ◌-◌, leb, ltb, eqb, length, replicate, ℤ, nat_abs}
use Rattle.language.specs.Limits as limit
use Rattle.language.specs.Below.Characters.{known}
use Rattle.language.specs.Instructions.{operation, is_call, is_end}
use Rattle.language.specs.Letters.{letter_code, indices, use_of}
use Rattle.language.specs.Program.{Arg, identifier, classes, Instr, Label, Entry, Switch, Program, instr_at, switch_at}
use Rattle.language.specs.Program.Arg.{nothing, letter, label, switch, class, text}
use Rattle.language.specs.Values.{Component, Record, File, Store, State, Inputs, empty_file, same_number, same, in_range}
use Rattle.language.specs.Values.Component.{word, address}
use Rattle.language.specs.Below.Lists.{total, all, any, filled, every, bytes_equal, among}
use Rattle.language.specs.Below.Quoted.{bytes}
use Rattle.machine.specs.Arguments.{records}
use Rattle.machine.specs.Changes.{fits}

-- Question 62. "Table well formed (every field in its range, unused cells zero, all targets in the table, last instruction as above)?" Every limit
-- that an accepted text keeps is a range, also those of names, texts, numbers and lines; the cells are the layout's matter

-- a word: not empty, of the 87 characters
abbrev pub good_word : List ℕ → Bool
good_word w = filled w && all known w

-- a text of a program: at most 60 characters
abbrev pub good_text : List ℕ → Bool
good_text t = good_word t && leb (length t) limit.item

-- no two elements are the same
module _ {X : Type 0} (same : X → X → Bool) where
  abbrev pub different : List X → Bool
  different [] = true
  different (x ∷ xs) = not (any (same x) xs) && different xs

module _ (p : Program) where
  -- the form of an argument, in the table of instructions
  abbrev pub form : Arg → ℕ
  form nothing = 45
  form (letter l n) = letter_code l
  form (label n) = 108
  form (switch n) = cond (switch_at p n).goes_by_name 119 120
  form (class cs) = 99
  form (text t) = 116
  form (Arg.number z) = 110

  -- a text longer than one character stands in the table of texts, a number beyond 15 in size in that of numbers
  abbrev pub kept_text : List ℕ → Bool
  kept_text t = leb (length t) 1 || any (bytes_equal t) p.texts

  abbrev pub kept_number : ℤ → Bool
  kept_number z = leb (nat_abs z) limit.small || any (same_number z) p.numbers

  -- an argument's index, label, switch, class, text or number is in range
  abbrev pub ranged : Arg → Bool
  ranged nothing = true
  ranged (letter l n) = ltb 0 n && leb n (indices (use_of l).var)
  ranged (label n) = ltb n (length p.labels)
  ranged (switch n) = ltb n (length p.switches)
  ranged (class cs) = filled cs && bytes_equal cs (classes cs)
  ranged (text t) = good_text t && kept_text t
  ranged (Arg.number z) = in_range z && kept_number z

  -- its arguments stand in one list of forms of its instruction
  unfoldable pub listed : Instr → Bool
  listed i =
      any (λ f. among (form i.first) (bytes f.0) && among (form i.second) (bytes f.1) && among (form i.third) (bytes f.2))
      (operation i.op).forms

  unfoldable pub good_instr : Instr → Bool
  good_instr i =
      listed i && ranged i.first && ranged i.second && ranged i.third && ltb 0 i.line && leb i.line limit.text

  unfoldable pub good_label : Label → Bool
  good_label l = identifier l.name && leb (length l.name) limit.item && ltb l.target (length p.code)

  -- an entry's label is declared; only an entry of NAZWA may have a text
  abbrev pub good_entry : Bool → Entry → Bool
  good_entry goes_by_name e = ltb e.label (length p.labels) && (not (filled e.text) || (goes_by_name && good_text e.text && kept_text e.text))

  unfoldable pub good_switch : Switch → Bool
  good_switch w = filled w.entries && all (good_entry w.goes_by_name) w.entries

  -- the limits, then every instruction, label, switch, text and number, then the last instruction
  abbrev pub program_tests : List Bool
  program_tests =
      ltb 0 (length p.code)
      ∷ leb (length p.code) limit.instructions
      ∷ leb (length p.labels) limit.labels
      ∷ leb (length p.switches) limit.switches
      ∷ leb (total (λ w. length w.entries) p.switches) limit.entries
      ∷ leb (length p.texts) limit.texts
      ∷ leb (length p.numbers) limit.numbers
      ∷ all good_instr p.code
      ∷ all good_label p.labels
      ∷ all good_switch p.switches
      ∷ all (λ t. ltb 1 (length t) && good_text t) p.texts
      ∷ all (λ z. ltb limit.small (nat_abs z) && in_range z) p.numbers
      ∷ different bytes_equal p.texts
      ∷ different same_number p.numbers
      ∷ is_end (operation (instr_at p (pred (length p.code))).op).flow
      ∷ []

  unfoldable pub good_program : Bool
  good_program = every program_tests

  -- "stack entries just after a call"
  unfoldable pub good_return : ℕ → Bool
  good_return n = ltb 0 n && is_call (operation (instr_at p (pred n)).op).flow

-- Question 61. "Inputs short enough and of the 61 characters?", 87 with the small letters
unfoldable pub good_inputs : Inputs → Bool
good_inputs ins = eqb (length ins) limit.inputs && all (λ w. leb (length w) limit.input && all known w) ins

-- Question 63, of what the state says: "fields in range, .. limits kept, words and records not empty, next instruction in the table, records'
-- addresses from 1 and distinct, every address, in components too, no greater than the last given, read places within the inputs, stack entries
-- just after a call". What may be at fault in many places is counted

-- 1 for an empty list
abbrev pub void : {X : Type 0} → List X → ℕ
void [] = 1
void (x ∷ xs) = 0

-- 1 for a byte that is none of the 87
abbrev pub strange : ℕ → ℕ
strange x = cond (known x) 0 1

-- the faults of a component where l is the last address given: an empty word, strange characters, a number out of range, an address not given
abbrev pub faults : ℕ → Component → ℕ
faults l (word w) = void w + total strange w
faults l (Component.number z) = nat_abs z - limit.size
faults l (address n) = n - l

-- of a record's components
abbrev pub parts_faults : ℕ → List Component → ℕ
parts_faults l xs = void xs + total (faults l) xs

abbrev pub record_faults : ℕ → Record → ℕ
record_faults l r = parts_faults l r.parts

-- how far read places lie past their inputs
abbrev pub overrun : List ℕ → Inputs → ℕ
overrun [] ws = 0
overrun (n ∷ ns) [] = n + overrun ns []
overrun (n ∷ ns) (w ∷ ws) = (n - length w) + overrun ns ws

unfoldable pub store_faults : Inputs → ℕ → Store → ℕ
store_faults ins l s =
    total (total (faults l)) s.exprs
    + total (λ f. total (record_faults l) (records f)) s.files
    + total (total strange) s.outputs
    + overrun s.places ins

-- the records of all files, and their addresses
abbrev pub all_records : List File → List Record
all_records [] = []
all_records (f ∷ fs) = records f ++ all_records fs

abbrev pub addresses : Store → List ℕ
addresses s = map (λ r. r.addr) (all_records s.files)

abbrev pub store_tests : Inputs → Store → List Bool
store_tests ins s =
    eqb (length s.exprs) limit.expressions
    ∷ eqb (length s.files) limit.files
    ∷ eqb (length s.outputs) limit.outputs
    ∷ eqb (length s.places) limit.inputs
    ∷ fits s
    ∷ leb s.last limit.addresses
    ∷ eqb (store_faults ins s.last s) 0
    ∷ all (λ n. ltb 0 n && leb n s.last) (addresses s)
    ∷ different eqb (addresses s)
    ∷ []

unfoldable pub good_store : Inputs → Store → Bool
good_store ins s = every (store_tests ins s)

abbrev pub state_tests : Program → Inputs → State → List Bool
state_tests p ins s =
    good_store ins s.store
    ∷ ltb s.next (length p.code)
    ∷ leb (length s.stack) limit.stack
    ∷ all (good_return p) s.stack
    ∷ []

unfoldable pub good_state : Program → Inputs → State → Bool
good_state p ins s = every (state_tests p ins s)

-- "Start then makes H plus, all else empty."
unfoldable pub started : State
started =
    record {
      store = record {
        exprs = replicate limit.expressions [];
        files = replicate limit.files empty_file;
        plus = true;
        outputs = replicate limit.outputs [];
        places = replicate limit.inputs 0;
        last = 0;
      };
      next = 0;
      stack = [];
    }
