-- What the instructions with a switch ask and tell. c is the table, k the switch's place, s the state or its store, i the expression.
use Rattle.std.specs.Prelude.{◌≡◌, Bool, true, false, cond, ◌&&◌, List, ℕ, suc, pred, ◌<◌, T, leb, ltb, ℤ, pos, nat_abs, length, get_or, Option, Some, None, Result, IfOk}
use Rattle.std.specs.Int.Signed.{lt_z}
use Rattle.lists.specs.Lists.{ahead, filled}
use Rattle.language.specs.Limits as limit
use Rattle.language.specs.Program.{Entry, no_entry, switch_at, target_of, meets, Op}
use Rattle.language.specs.Program.Op.{SKONA, SKOIN, WYNA, WYIN}
use Rattle.language.specs.Values.{Store, State, chars, value}
use Rattle.layout.specs.Table.{program_of, good_table}
use Rattle.machine.specs.Arguments.{first, none, needs}
use Rattle.machine.specs.Changes.{used, with_plus}
use Rattle.machine.specs.Effects.{Go, Row}
use Rattle.packed.specs.Packed.{table_of}
use Rattle.state.specs.Working.{nth, reading}
use Rattle.table.specs.Good.{GoodSwitch}
use Rattle.table.specs.Reads.{switch_size}
use Rattle.instructions.specs.Does.{stop_of}
use Rattle.instructions.specs.Fronts.{front_part}
use Rattle.instructions.specs.Questions.{told_by}
use Rattle.instructions.specs.declared.Question.{Question}
use Rattle.jumps.specs.declared.Way.{Way}
use Rattle.jumps.specs.declared.Way.TheVariants.{Jump, Call}

-- jumps and calls: what the store is where none is met, and the operators by a word and by a number
abbrev pub missing : Way → Store → Store
missing Jump s = s
missing Call s = with_plus false s

abbrev pub word_op : Way → Op
word_op Jump = SKONA
word_op Call = WYNA

abbrev pub number_op : Way → Op
number_op Jump = SKOIN
number_op Call = WYIN

-- the entries of switch k; how many stand before the first that is met by the word in front
abbrev pub entries_at : List ℕ → ℕ → List Entry
entries_at c k = (switch_at (program_of c) k).entries

abbrev pub first_met : List ℕ → ℕ → Store → ℕ → ℕ
first_met c k s i = ahead (λ e. meets (program_of c) e (chars (first (front_part s i)))) (entries_at c k)

-- whether one is, and the first
abbrev pub is_met : List ℕ → ℕ → Store → ℕ → Bool
is_met c k s i = ltb (first_met c k s i) (length (entries_at c k))

abbrev pub met_entry : List ℕ → ℕ → Store → ℕ → Option ℕ
met_entry c k s i = cond (is_met c k s i) (Some (first_met c k s i)) None

-- whether the number in front is an entry's, and that entry, from 0
abbrev pub is_inside : List ℕ → ℕ → Store → ℕ → Bool
is_inside c k s i = let z : ℤ = value (first (front_part s i)) in lt_z (pos 0) z && leb (nat_abs z) (length (entries_at c k))

abbrev pub numbered_entry : List ℕ → ℕ → Store → ℕ → Option ℕ
numbered_entry c k s i = cond (is_inside c k s i) (Some (pred (nat_abs (value (first (front_part s i)))))) None

-- the instruction that entry j leads to
abbrev pub entry_goal : List ℕ → ℕ → ℕ → ℕ
entry_goal c k j = target_of (program_of c) (get_or (entries_at c k) j no_entry)

-- to go there is to use the component in front
abbrev pub entry_row : (ℕ → Go) → List ℕ → ℕ → ℕ → Store → Bool → ℕ → Row
entry_row to c k j s removes i = (none, used (nth (reading removes) i) s, to (entry_goal c k j))

-- ---- what is asked

-- there is a component in front
pub record Fronted (s : State) (i : ℕ) : Type 0 where
  pub index : i < limit.expressions
  pub some : filled (front_part s.store i) ≡ true

-- entry j
pub record Entered (c : List ℕ) (k j : ℕ) : Type 0 where
  pub good : T (good_table c)
  pub switch : GoodSwitch c k
  pub below : j < switch_size (table_of c) k

pub record EntryGo (c : List ℕ) (s : State) (i k j : ℕ) : Type 0 where
  pub fronted : Fronted s i
  pub entered : Entered c k j
  pub following : suc s.next < limit.instructions

-- the instructions: SZUKAJ, jumps and calls
pub record Looks (c : List ℕ) (i k : ℕ) : Type 0 where
  pub index : i < limit.expressions
  pub switch : GoodSwitch c k

pub record Switches (c : List ℕ) (s : State) (i k : ℕ) : Type 0 where
  pub looks : Looks c i k
  pub good : T (good_table c)
  pub following : suc s.next < limit.instructions

-- ---- what is told

-- the entry by the word in front, and by the number
pub record FindsEntry (c : List ℕ) (k : ℕ) (s : Store) (i : ℕ) (r : Result (Option ℕ) Question) : Type 0 where
  pub told : told_by r ≡ stop_of (needs 0 (front_part s i))
  pub is : IfOk r (λ o. o ≡ met_entry c k s i)

pub record NumbersEntry (c : List ℕ) (k : ℕ) (s : Store) (i : ℕ) (r : Result (Option ℕ) Question) : Type 0 where
  pub told : told_by r ≡ stop_of (needs 1 (front_part s i))
  pub is : IfOk r (λ o. o ≡ numbered_entry c k s i)

pub record Goal (c : List ℕ) (k j r : ℕ) : Type 0 where
  pub is : r ≡ entry_goal c k j
  pub most : r < limit.instructions
