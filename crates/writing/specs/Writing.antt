-- A program table while it is written: the program that it holds, finished or not, the changes of that program, and what the functions ask and promise.
use Rattle.std.specs.Prelude.{◌≡◌, Bool, true, cond, List, [], ◌∷◌, ◌++◌, ℕ, zero, suc, ◌+◌, ◌-◌, ◌≤◌, ◌<◌, T, ltb, length, get_or, set, drop, replicate, ℤ, nat_abs}
use Rattle.blocks.specs.Below.Instructions.{operation}
use Rattle.blocks.specs.Below.Limits as limit
use Rattle.blocks.specs.Below.Program.{Arg, Instr, Label, Entry, Switch, Program, no_instr, no_entry}
use Rattle.blocks.specs.Below.Program.Arg.{nothing, letter, label, switch, class, text}
use Rattle.blocks.specs.Below.LayoutBounds.{Each, Below}
use Rattle.blocks.specs.Below.LayoutCells.{cell, code}
use Rattle.blocks.specs.Below.Table.{text_ref, arg_cell, all_entries, table_cells}
use Rattle.blocks.specs.Below.WellFormed.{kept_text, kept_number}
use Rattle.table.specs.Below.Packed.{table_of}

-- ---- the program that a table holds

abbrev pub no_program : Program
no_program = record { code = []; labels = []; switches = []; texts = []; numbers = [] }

-- a name or a text has a place in 15 cells
pub record Short (w : List ℕ) : Type 0 where
  pub most : length w ≤ limit.item
  pub below : Below 256 w

-- the text or the number of an argument stands in its table, so that its cell stays what it is when the tables grow
abbrev pub kept_arg : Program → Arg → Bool
kept_arg p nothing = true
kept_arg p (letter l n) = true
kept_arg p (label k) = true
kept_arg p (switch k) = true
kept_arg p (class cs) = true
kept_arg p (text t) = kept_text p t
kept_arg p (Arg.number z) = kept_number p z

pub record KeptInstr (p : Program) (i : Instr) : Type 0 where
  pub first : T (kept_arg p i.first)
  pub second : T (kept_arg p i.second)
  pub third : T (kept_arg p i.third)

pub record KeptEntry (p : Program) (e : Entry) : Type 0 where
  pub low : e.label < 128
  pub kept : T (kept_text p e.text)

-- a program that has a place in the table
pub record Tabular (p : Program) : Type 0 where
  pub code_most : length p.code ≤ limit.instructions
  pub labels_most : length p.labels ≤ limit.labels
  pub switches_most : length p.switches ≤ limit.switches
  pub entries_most : length (all_entries p) ≤ limit.entries
  pub texts_most : length p.texts ≤ limit.texts
  pub numbers_most : length p.numbers ≤ limit.numbers
  pub code_kept : Each (KeptInstr p) p.code
  pub entries_kept : Each (KeptEntry p) (all_entries p)
  pub names_short : Each (λ l. Short l.name) p.labels
  pub texts_short : Each Short p.texts
  pub numbers_small : Each (λ z. nat_abs z ≤ limit.size) p.numbers

-- the first 8,192 of the lent cells c are those of p
pub record HoldsProgram (c : List ℕ) (p : Program) : Type 0 where
  pub long : limit.table ≤ length c
  pub is : table_of c ≡ table_cells p
  pub tabular : Tabular p

-- ---- changes of a program

unfoldable pub with_text : List ℕ → Program → Program
with_text w p = record { code = p.code; labels = p.labels; switches = p.switches; texts = p.texts ++ (w ∷ []); numbers = p.numbers }

unfoldable pub with_number : ℤ → Program → Program
with_number z p = record { code = p.code; labels = p.labels; switches = p.switches; texts = p.texts; numbers = p.numbers ++ (z ∷ []) }

abbrev pub label_of : List ℕ → ℕ → Label
label_of w k = record { name = w; target = k }

unfoldable pub with_label : Label → Program → Program
with_label l p = record { code = p.code; labels = p.labels ++ (l ∷ []); switches = p.switches; texts = p.texts; numbers = p.numbers }

unfoldable pub with_instr : Instr → Program → Program
with_instr i p = record { code = p.code ++ (i ∷ []); labels = p.labels; switches = p.switches; texts = p.texts; numbers = p.numbers }

abbrev pub with_switches : List Switch → Program → Program
with_switches ws p = record { code = p.code; labels = p.labels; switches = ws; texts = p.texts; numbers = p.numbers }

-- a switch that has no entries yet, and an entry of the last switch
unfoldable pub with_switch : Bool → Program → Program
with_switch goes_by_name p = with_switches (p.switches ++ (record { goes_by_name = goes_by_name; entries = [] } ∷ [])) p

abbrev pub and_entry : Entry → Switch → Switch
and_entry e w = record { goes_by_name = w.goes_by_name; entries = w.entries ++ (e ∷ []) }

abbrev pub on_last : {X : Type 0} → (X → X) → List X → List X
on_last f [] = []
on_last f (x ∷ []) = f x ∷ []
on_last f (x ∷ y ∷ xs) = x ∷ on_last f (y ∷ xs)

unfoldable pub with_entry : Entry → Program → Program
with_entry e p = with_switches (on_last (and_entry e) p.switches) p

-- argument j (0, 1 or 2) of instruction k
abbrev pub put_argument : ℕ → Arg → Instr → Instr
put_argument zero a i = record { op = i.op; line = i.line; first = a; second = i.second; third = i.third }
put_argument (suc zero) a i = record { op = i.op; line = i.line; first = i.first; second = a; third = i.third }
put_argument (suc (suc j)) a i = record { op = i.op; line = i.line; first = i.first; second = i.second; third = a }

unfoldable pub with_argument : ℕ → ℕ → Arg → Program → Program
with_argument k j a p =
    record {
      code = set p.code k (put_argument j a (get_or p.code k no_instr));
      labels = p.labels;
      switches = p.switches;
      texts = p.texts;
      numbers = p.numbers;
    }

-- the label of entry k of all entries
abbrev pub to_label : ℕ → Entry → Entry
to_label m e = record { label = m; text = e.text }

abbrev pub relabelled : ℕ → ℕ → List Switch → List Switch
relabelled k m [] = []
relabelled k m (w ∷ ws) =
    cond (ltb k (length w.entries))
    (record { goes_by_name = w.goes_by_name; entries = set w.entries k (to_label m (get_or w.entries k no_entry)) } ∷ ws)
    (w ∷ relabelled (k - length w.entries) m ws)

unfoldable pub with_entry_label : ℕ → ℕ → Program → Program
with_entry_label k m p = with_switches (relabelled k m p.switches) p

-- ---- promises

-- the cells d are those of the empty program, all zeros; "cells beyond are neither read nor written"
pub record Cleared (c d : List ℕ) : Type 0 where
  pub zeros : table_of d ≡ replicate limit.table 0
  pub holds : HoldsProgram d no_program
  pub beyond : drop limit.table d ≡ drop limit.table c

-- whatever program the cells c held, the cells d hold what f makes of it
pub record Changes (f : Program → Program) (c d : List ℕ) : Type 0 where
  pub holds : (p : Program) → HoldsProgram c p → HoldsProgram d (f p)
  pub beyond : drop limit.table d ≡ drop limit.table c

-- the same for every x that fits the numbers handed over
pub record Writes {X : Type 0} (asks : X → Program → Type 0) (f : X → Program → Program) (c d : List ℕ) : Type 0 where
  pub holds : (x : X) (p : Program) → HoldsProgram c p → asks x p → HoldsProgram d (f x p)
  pub beyond : drop limit.table d ≡ drop limit.table c

-- ---- what is asked

-- there is room for one more among the n that cell k counts
pub record Room (c : List ℕ) (k n : ℕ) : Type 0 where
  pub long : limit.table ≤ length c
  pub room : cell (table_of c) k < n

-- and a word of so many characters, and a number, are in range
pub record WordRoom (c : List ℕ) (k n chars : ℕ) : Type 0 where
  pub long : limit.table ≤ length c
  pub room : cell (table_of c) k < n
  pub short : chars ≤ limit.item

pub record LabelRoom (c : List ℕ) (chars target : ℕ) : Type 0 where
  pub long : limit.table ≤ length c
  pub room : cell (table_of c) 1 < limit.labels
  pub short : chars ≤ limit.item
  pub low : target < limit.instructions

pub record InstrRoom (c : List ℕ) (op line x y z : ℕ) : Type 0 where
  pub long : limit.table ≤ length c
  pub room : cell (table_of c) 0 < limit.instructions
  pub op_most : op < 64
  pub line_most : line ≤ limit.text
  pub x_most : x < 4294967296
  pub y_most : y < 4294967296
  pub z_most : z < 4294967296

pub record SwitchRoom (c : List ℕ) : Type 0 where
  pub long : limit.table ≤ length c
  pub room : cell (table_of c) 2 < limit.switches
  pub entries : cell (table_of c) 3 ≤ limit.entries

-- there is a last switch, with a cell that may grow
pub record EntryRoom (c : List ℕ) (m v : ℕ) : Type 0 where
  pub long : limit.table ≤ length c
  pub room : cell (table_of c) 3 < limit.entries
  pub some : 0 < cell (table_of c) 2
  pub few : cell (table_of c) 2 ≤ limit.switches
  pub last : cell (table_of c) (6151 + cell (table_of c) 2) < 131072
  pub label_low : m < 128
  pub ref_low : v < 384

-- argument j of instruction k, which is there
pub record ArgumentAt (c : List ℕ) (k j x : ℕ) : Type 0 where
  pub long : limit.table ≤ length c
  pub there : k < cell (table_of c) 0
  pub few : cell (table_of c) 0 ≤ limit.instructions
  pub place : j < 3
  pub most : x < 4294967296

pub record EntryAt (c : List ℕ) (k m : ℕ) : Type 0 where
  pub long : limit.table ≤ length c
  pub there : k < cell (table_of c) 3
  pub few : cell (table_of c) 3 ≤ limit.entries
  pub label_low : m < 128

-- ---- what is handed over, for a program p

pub record IsNumber (n : ℕ) (z : ℤ) (p : Program) : Type 0 where
  pub is : n ≡ code z
  pub small : nat_abs z ≤ limit.size

pub record IsInstr (op line x y z : ℕ) (i : Instr) (p : Program) : Type 0 where
  pub op_is : op ≡ (operation i.op).number
  pub line_is : line ≡ i.line
  pub first_is : x ≡ arg_cell p i.first
  pub second_is : y ≡ arg_cell p i.second
  pub third_is : z ≡ arg_cell p i.third
  pub kept : KeptInstr p i

pub record IsEntry (m v : ℕ) (e : Entry) (p : Program) : Type 0 where
  pub label_is : m ≡ e.label
  pub ref_is : v ≡ text_ref p e.text
  pub kept : T (kept_text p e.text)

pub record IsArg (x : ℕ) (a : Arg) (p : Program) : Type 0 where
  pub is : x ≡ arg_cell p a
  pub kept : T (kept_arg p a)
