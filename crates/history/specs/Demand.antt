-- Demand 3: what is promised of every list of starts and runs on the table of an accepted text and one state memory.
use Rattle.std.specs.Prelude.{◌≡◌, ◌↔◌, ◌≢◌, List, [], ◌∷◌, ℕ, suc, ◌≤◌, ◌<◌, T, length}
use Rattle.lists.specs.Lists.{among}
use Rattle.language.specs.Program.{Arg, Instr, Switch, Program, instr_at, label_at, switch_at}
use Rattle.language.specs.Program.Arg.{nothing, letter, label, switch, class, text}
use Rattle.language.specs.Values.{Store, State, Inputs}
use Rattle.machine.specs.Runs.Outcome.{went}
use Rattle.machine.specs.Steps.{step}
use Rattle.machine.specs.WellFormed.{ranged, listed, good_switch}
use Rattle.machine.specs.Addresses.{times}
use Rattle.layout.specs.Bounds.{Each}
use Rattle.layout.specs.Memory.{state_of}
use Rattle.layout.specs.Table.{program_of}
use Rattle.calls.specs.Calls.{Call, call_inputs, reply_number, call_questions, result_of, run_of}
use Rattle.calls.specs.Calls.Reply.{refusal}
use Rattle.calls.specs.Answers.{Accepted, refusal_numbers, accepted_numbers, FirstNo, RunEnds}
use Rattle.history.specs.History.{Visit, visit, Trail, Moment, history}

-- ---- what a step meets

module _ (p : Program) where
  -- a label is declared, and its instruction is in the table ("declared as in 12")
  abbrev pub LabelDeclared : ℕ → Type 0
  LabelDeclared k = (k < length p.labels) × ((label_at p k).target < length p.code)

  -- "that switch's entries: declared as in 12 and 13, listed as in 02"
  pub record EntriesMet (w : Switch) : Type 0 where
    pub labels_declared : Each (λ e. LabelDeclared e.label) w.entries
    -- at least one; a text only in NAZWA, of 1 to 60 of the characters, and in the table of texts if longer than one
    pub entries_listed : T (good_switch p w)

  -- an argument's label; its switch ("as in 13") with its entries
  abbrev pub Declared : Arg → Type 0
  Declared nothing = Unit {0}
  Declared (letter l n) = Unit {0}
  Declared (label k) = LabelDeclared k
  Declared (switch k) = (k < length p.switches) × EntriesMet (switch_at p k)
  Declared (class cs) = Unit {0}
  Declared (text t) = Unit {0}
  Declared (Arg.number z) = Unit {0}

  -- "listed as in 02": each argument listed for its place, a switch by its type; index and number in range
  pub record InstructionMet (i : Instr) : Type 0 where
    pub arguments_listed : T (listed p i)
    pub first_ranged : T (ranged p i.first)
    pub second_ranged : T (ranged p i.second)
    pub third_ranged : T (ranged p i.third)
    pub first_declared : Declared i.first
    pub second_declared : Declared i.second
    pub third_declared : Declared i.third

  -- "A step, also one that fails, meets the next instruction as the text has it, with its arguments, labels, switch and that switch's entries". "A place
  -- past the table is a next instruction or stack entry that the text lacks."
  pub record Met (s : State) : Type 0 where
    pub next_in_table : s.next < length p.code
    pub returns_in_table : Each (λ n. n < length p.code) s.stack
    pub instruction : InstructionMet (instr_at p s.next)

-- ---- records' addresses

-- each address is that of at most one record
abbrev pub Distinct : Store → Type 0
Distinct s = (n : ℕ) → times n s ≤ 1

-- "A record is deleted when some file has its address before a step and no file has it after."
abbrev pub Deleted : ℕ → Store → Store → Type 0
Deleted n s t = (times n s ≢ 0) × (times n t ≡ 0)

-- no address that a step of the trail deleted is that of a record of u
abbrev pub NoneBack : Store → Trail → Type 0
NoneBack u [] = Unit {0}
NoneBack u (v ∷ []) = Unit {0}
NoneBack u (v ∷ w ∷ tr) = ((n : ℕ) → Deleted n w.state.store v.state.store → times n u ≡ 0) × NoneBack u (w ∷ tr)

-- and so for each state of the trail and the steps before it
abbrev pub NeverAgain : Trail → Type 0
NeverAgain [] = Unit {0}
NeverAgain (v ∷ tr) = NoneBack v.state.store (v ∷ tr) × NeverAgain tr

-- ---- steps

-- s became t in n steps, each from the newest state of a trail, on the inputs that the trail then names
pub data Stepped (p : Program) (s : State) : ℕ → Trail → State → Type 0 where
  not_begun : Stepped p s 0 [] s
  begun_at : {ins : Inputs} → Stepped p s 0 (visit ins s ∷ []) s
  then_step : {n : ℕ} {ins : Inputs} {t u : State} {v : Visit} {tr : Trail} → Stepped p s n (v ∷ tr) t → step p ins t ≡ went u
      → Stepped p s (suc n) (visit ins u ∷ v ∷ tr) u

-- ---- demand 3

-- each state of a moment's trail
abbrev pub EachState : (State → Type 0) → Moment → Type 0
EachState P x = Each (λ v. P v.state) x.past.trail

-- Of the program p of an accepted text, the cells c of its table, a list of calls, and the cells m of the state memory. What is said of single calls is
-- said of all on any memory m' and, with c', on any table
pub record Demand3 (p : Program) (c : List ℕ) (xs : List Call) (m : List ℕ) : Type 0 where
  -- the table is the text's
  pub same_program : program_of c ≡ p
  -- "no step meets an undeclared label or switch, an argument its instruction doesn't list, or a place past the table"
  pub met : Each (EachState (Met p)) (history p c xs m)
  -- ".. lets two records share an address"
  pub distinct : Each (EachState (λ s. Distinct s.store)) (history p c xs m)
  -- ".. or makes a deleted record's address name a record again before the next accepted start"
  pub never_again : Each (λ x. NeverAgain x.past.trail) (history p c xs m)
  -- "After each call the state is the last accepted start's (before any, the one first handed in), taken on by as many of the manual's steps as the runs
  -- since counted", "each on its run's inputs"
  pub state_after : Each (λ x. Stepped p x.past.base x.past.count x.past.trail (state_of x.result.cells)) (history p c xs m)
  -- "Before the first accepted call (80, pause or stop) the memory stays as it was."
  pub untouched : Each (λ x. x.past.trail ≡ [] → x.result.cells ≡ m) (history p c xs m)
  -- "An accepted run, on any other table too, pauses exactly when its count equals its budget; else, with a lower count, it stops in the state before the
  -- failing step and names the first of our questions on a step whose answer there is no."
  pub run_ends : (c' m' : List ℕ) (ins : Inputs) (budget : ℕ) → Accepted (run_of c' ins budget m').reply
      → RunEnds (program_of c') ins budget m' (run_of c' ins budget m')
  -- "A start or run is refused just when one of our questions on the call itself is answered no, with the first one's number."
  pub refused : (c' m' : List ℕ) (x : Call) (number : ℕ)
      → ((result_of c' x m').reply ≡ refusal number) ↔ FirstNo number (call_questions c' x m')
  -- "Refused calls change nothing."
  pub unchanged : (c' m' : List ℕ) (x : Call) (number : ℕ) → (result_of c' x m').reply ≡ refusal number → (result_of c' x m').cells ≡ m'
  -- What a caller sees is the reply's number: 61, 62 or 63 just when it is refused, with that number; else 80, 81 or a stop's
  pub refused_number : (c' m' : List ℕ) (x : Call) (number : ℕ)
      → ((result_of c' x m').reply ≡ refusal number) ↔ ((reply_number (result_of c' x m').reply ≡ number) × T (among number refusal_numbers))
  pub accepted_number : (c' m' : List ℕ) (x : Call)
      → Accepted (result_of c' x m').reply ↔ T (among (reply_number (result_of c' x m').reply) accepted_numbers)
  -- "No table of an accepted text brings 62"
  pub never_62 : (m' : List ℕ) (x : Call) → reply_number (result_of c x m').reply ≢ 62
  -- "no state from an accepted start or run, with the same table and inputs, brings 63"
  pub never_63 : (m' : List ℕ) (x y : Call) → Accepted (result_of c x m').reply → call_inputs y ≡ call_inputs x
      → reply_number (result_of c y (result_of c x m').cells).reply ≢ 63
