-- The arguments of an instruction: what their reader promises.
use Rattle.std.specs.Prelude.{◌≡◌, Bool, cond, List, [], ◌∷◌, ◌++◌, ℕ, ◌+◌, ◌-◌, ◌≤◌, eqb, ltb, length, drop}
use Rattle.statements.specs.Checks.{worst}
use Rattle.statements.specs.Faults.{Fault, Verdict, lower, worse}
use Rattle.forms.specs.declared.Live.{Live}
use Rattle.forms.specs.Forms.{most_of, least_of}
use Rattle.forms.specs.declared.Taken.{Taken}
use Rattle.forms.specs.Reading.{Reads, lists_at, read_as, taken_at}
use Rattle.scanner.specs.Sorts.{sort_in}
use Rattle.language.specs.Instructions.{operation}
use Rattle.language.specs.Limits as limit
use Rattle.language.specs.Program.{Op}
use Rattle.lexer.specs.declared.Token.{Token}
use Rattle.lists.specs.Lists.{each}
use Rattle.std.specs.Prelude.{Option, None, Some, Result, Ok, Err}
use Rattle.statements.specs.StatementAt.{statement_at, fault_of}
use Rattle.heads.specs.Heads.{EndedBy}
use Rattle.syntax.specs.ArgumentForms.{Argument, arguments_in, arguments, read_by, of_form, most, least}
use Rattle.syntax.specs.Items.{Item, is, same_sort, places}
use Rattle.syntax.specs.Items.Sort.{colon}
use Rattle.arguments.specs.Valued.{ValuesRead}
use Rattle.arguments.specs.declared.Arguments.{Arguments}

-- a colon by itself or after a word
unfoldable pub colons : List Item → List ℕ
colons js = each (λ i. cond (is colon i) (i.at ∷ []) i.colon) js

-- the arguments from a place of an instruction's lists on, and what is at fault among them: colons, and arguments that are not listed
abbrev pub read_from : Op → Live → ℕ → List Item → List Argument
read_from o live place js = read_by (lists_at o live place) (arguments_in js)

unfoldable pub argument_faults : Op → Live → ℕ → List Item → List ℕ
argument_faults o live place js = colons js ++ places (of_form "-" (read_from o live place js))

-- 02 of an instruction whose operator is the token t
unfoldable pub instr_after : List ℕ → Token → Op → List ℕ
instr_after s t o =
    let js = statement_at s t.next in
    colons js ++ cond (ltb (length (arguments_in js)) (least o)) (t.at ∷ []) [] ++ places (of_form "-" (arguments o js))

abbrev pub InstrFault : List ℕ → Token → ℕ → Fault → Type 0
InstrFault s t number r = (o : Op) → (operation o).number ≡ number → r ≡ fault_of (instr_after s t o)

-- the operator's place at, where a count of arguments is less than the operator of a number needs
unfoldable pub missing_or : ℕ → ℕ → ℕ → Fault → Fault
missing_or number at count f = cond (ltb count (least_of number)) (Some at) f

-- the lowest place in excess, with one more where there is one
abbrev pub with_excess : Fault → Bool → ℕ → Fault
with_excess over more at = cond more (lower over (Some at)) over

-- what is taken by the item of the token t at a place, by the set of the forms that it reads as; or the place at fault
abbrev pub or_colon : Option ℕ → Reads → Result Reads ℕ
or_colon None t = Ok t
or_colon (Some c) t = Err c

unfoldable pub accepted : Bool → Token → Reads → Result Reads ℕ
accepted is_colon t b = cond is_colon (Err t.at) (cond (eqb b.form 45) (Err t.at) (or_colon t.colon b))

abbrev pub as_read : Result Taken ℕ → Result Reads ℕ
as_read (Ok t) = Ok (read_as t)
as_read (Err p) = Err p

abbrev pub Accepts : ℕ → Live → ℕ → Token → ℕ → Result Taken ℕ → Type 0
Accepts number live place t kinds r = as_read r ≡ accepted (same_sort colon (sort_in t.sort)) t (taken_at number live place kinds)

-- the items from n on
pub record Leaves (s : List ℕ) (n : ℕ) : Type 0 where
  pub inside : n ≤ length s
  pub low : length s ≤ limit.text

-- the items from i on, which `place` arguments stand before
pub record Refusable (s : List ℕ) (number place i : ℕ) : Type 0 where
  pub left : Leaves s i
  pub below : place ≤ most_of number

pub record Refuses (s : List ℕ) (at number place i p : ℕ) (w : Verdict) (r : Arguments) : Type 0 where
  pub over_is : r.over ≡ fault_of (places (drop (most_of number - place) (arguments_in (statement_at s i))))
  pub fault_is : r.fault ≡ missing_or number at (place + length (arguments_in (statement_at s i))) (Some p)
  pub worst_is : r.worst ≡ worse w (worst (statement_at s i))
  pub ends : EndedBy s i r.next

-- the operator is the token t: 01 and 02; the values, where 02 has no fault; 14 to 16 with those of the items after the operator; and the end of the statement
pub record ReadsArguments (s : List ℕ) (t : Token) (number : ℕ) (w : Verdict) (r : Arguments) : Type 0 where
  pub counted : (o : Op) → (operation o).number ≡ number → r.over ≡ fault_of (places (drop (most o) (arguments_in (statement_at s t.next))))
  pub judged : InstrFault s t number r.fault
  pub values : r.fault ≡ None → ValuesRead s t.next number r.values
  pub worst_is : r.worst ≡ worse w (worst (statement_at s t.next))
  pub ends : EndedBy s t.next r.next
