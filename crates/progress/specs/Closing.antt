-- Question 25 as it is kept while a text is read, and what its functions promise.
use Rattle.std.specs.Prelude.{◌≡◌, cond, List, [], ◌∷◌, ℕ, pred, length, drop}
use Rattle.headings.specs.Headings.{is_kons, is_konp, name_by, AfterTold}
use Rattle.headings.specs.Below.Heads.{head_keyword, Headed}
use Rattle.headings.specs.Below.Head.{Head}
use Rattle.language.specs.Instructions.{operation, is_end}
use Rattle.lists.specs.Lists.{each, filled}
use Rattle.statements.specs.Faults.{lower}
use Rattle.statements.specs.StatementAt.{statement_at, stops, fault_of}
use Rattle.statements.specs.Faults.{Fault}
use Rattle.std.specs.Prelude.{Option, None, Some}
use Rattle.syntax.specs.Ending.{end_faults}
use Rattle.syntax.specs.Items.{Item, places}
use Rattle.syntax.specs.Statements.{operator}
use Rattle.syntax.specs.Tables as spec
use Rattle.syntax.specs.Tables.{Written, Draft, closing_after}
use Rattle.progress.specs.declared.Closing.{Closing}

-- c tells the specification's k
pub record TellsClosing (k : spec.Closing) (c : Closing) : Type 0 where
  pub kons_is : k.after_KONS ≡ c.kons
  pub konp_is : k.after_KONP ≡ c.konp
  pub early_is : fault_of k.early ≡ c.early
  pub fault_is : fault_of k.faults ≡ c.fault

-- what of a statement is at fault, by its head, the lowest place of its labels and that of what follows KONS or KONP
abbrev pub fault_by : Head → Fault → Fault → Closing → Fault
fault_by h labels after c =
    let here = lower labels (Some h.op.at) in
    let there = lower labels after in
    cond (stops h.op.sort) None
    (cond c.konp here (cond (is_konp (head_keyword h)) there (cond c.kons here (cond (is_kons (head_keyword h)) there None))))

-- "labels alone" change nothing
abbrev pub closing_then : List ℕ → spec.Closing → List Item → List Item → spec.Closing
closing_then section k ls x = cond (filled (operator x)) (closing_after section k ls x) k

abbrev pub Closed : List ℕ → ℕ → Option ℕ → Fault → Closing → Closing → Type 0
Closed s n section labels c r =
    (k : spec.Closing) → TellsClosing k c → (ls : List Item) → fault_of (places ls) ≡ labels
    → TellsClosing (closing_then (name_by s section) k ls (statement_at s n)) r

abbrev pub ToldClosing : Head → Fault → Fault → Closing → Closing → Type 0
ToldClosing h labels after c r = (s : List ℕ) (n : ℕ) (section : Option ℕ) → Headed s n h → AfterTold s n section after → Closed s n section labels c r

-- "the last of them STOP, SKOCZ or WROC": the place of a last instruction that is none of these
abbrev pub unended : List Written → List ℕ
unended code = each (λ i. cond (is_end (operation i.op).flow) [] (i.at ∷ [])) (drop (pred (length code)) code)

-- what of the whole text is at fault
abbrev pub Ends : ℕ → Closing → ℕ → Fault → Fault → Fault → Type 0
Ends last c instructions ended waiting r =
    (d : Draft) → TellsClosing d.closing c → length d.tables.code ≡ instructions → fault_of (unended d.tables.code) ≡ ended
    → fault_of (places d.waiting) ≡ waiting → r ≡ fault_of (end_faults last d)
