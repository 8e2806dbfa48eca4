-- Definitions in cells: what the functions that read them promise.
use Rattle.std.specs.Option.{is_some}
use Rattle.std.specs.Prelude.{Option, Some, None, ◌≡◌, Bool, true, false, cond, ◌||◌, List, [], ◌∷◌, ◌++◌, ℕ, ◌+◌, ◌*◌, ◌≤◌, ◌<◌, length, get_or, take, drop}
use Rattle.lists.specs.Lists.{each, filled, head_or, if_any, joined}
use Rattle.statements.specs.Faults.{Fault}
use Rattle.statements.specs.Faults.{lower}
use Rattle.statements.specs.StatementAt.{fault_of}
use Rattle.macros.specs.Elements.{Element, is_open, is_close, until, from, stretches}
use Rattle.macros.specs.Conditions.{bodiless}
use Rattle.macros.specs.Macros.{has_body, macro_of, definition_faults}
use Rattle.macro_changes.specs.Changing.{Kept}
use Rattle.macro_code.specs.Code.{change_count, first_change, behind_changes, macro_in, macros_in}
use Rattle.macro_code.specs.Places as place
use Rattle.macro_elements.specs.ElementAt.{elements_from, argument_value, Lent, FirstElement}
use Rattle.macro_elements.specs.declared.Element as code
use Rattle.macro_reading.specs.declared.Definition.{Definition}
use Rattle.macro_reading.specs.declared.Definitions.{Definitions}

-- the stretch from place n on, up to a closing bracket
abbrev pub stretch : List Element → List Element
stretch us = until is_close us ++ take 1 (from is_close us)

-- t is the first element from place n on, and an opening bracket
pub record OpenAt (s : List ℕ) (n : ℕ) (t : code.Element) : Type 0 where
  pub first : FirstElement s n t
  pub opens : is_open (argument_value s t) ≡ true

pub record NextOpen (s : List ℕ) (n : ℕ) (r : Option code.Element) : Type 0 where
  pub none : r ≡ None → if_any false is_open (elements_from s n) ≡ false
  pub some : (t : code.Element) → r ≡ Some t → OpenAt s n t

-- from place n on, behind the list's bracket, with cells from q on: those before it are paid for by the bytes before n
pub record Definable (s m c : List ℕ) (n q : ℕ) : Type 0 where
  pub lent : Lent s m n
  pub paid : q + 2 ≤ 2 * n
  pub room : place.cells ≤ length c
  pub wide : length c ≤ 131072

pub record Defining (s d : List ℕ) (n q : ℕ) (r : Definition) : Type 0 where
  pub macro_is : macro_of s (stretch (elements_from s n)) ≡ cond (is_some r.used) (macro_in s d q ∷ []) []
  pub fault_is : r.passed.fault ≡ fault_of (definition_faults (stretch (elements_from s n)))
  pub rest : elements_from s r.passed.next ≡ drop 1 (from is_close (elements_from s n))
  pub from_here : n + cond (is_some r.used) 2 1 ≤ r.passed.next
  pub closed_more : is_some r.used ≡ true → filled (elements_from s r.passed.next) ≡ true → n + 3 ≤ r.passed.next
  pub most : r.passed.next ≤ length s
  pub paid : (u : ℕ) → r.used ≡ Some u → u + 2 ≤ 2 * r.passed.next
  pub low : (u : ℕ) → r.used ≡ Some u → q + 3 ≤ u
  pub used_is : (u : ℕ) → r.used ≡ Some u → behind_changes d (first_change d q) (change_count d q) ≡ u

pub record Defined (s c d : List ℕ) (n q : ℕ) (r : Option Definition) : Type 0 where
  pub kept : Kept c d q
  pub opened_is : is_some r ≡ has_body (stretch (elements_from s n))
  pub defining : (x : Definition) → r ≡ Some x → Defining s d n q x

-- from a list's bracket on: definitions, the stretch that ends the list, and what follows it
abbrev pub defined_in : List Element → List (List Element)
defined_in us = until bodiless (stretches is_close us)

abbrev pub last_in : List Element → List Element
last_in us = head_or [] (from bodiless (stretches is_close us))

abbrev pub after_in : List Element → List Element
after_in us = joined (drop 1 (from bodiless (stretches is_close us)))

pub record Listable (s m c firsts : List ℕ) (n : ℕ) : Type 0 where
  pub lent : Lent s m n
  pub behind_bracket : 1 ≤ n
  pub room : place.cells ≤ length c
  pub wide : length c ≤ 131072
  pub macros_room : place.macros ≤ length firsts

-- a macro's cells lie before the cell q
pub record Lies (c : List ℕ) (a q : ℕ) : Type 0 where
  pub own : first_change c a ≤ q
  pub all_of_it : behind_changes c (first_change c a) (change_count c a) ≤ q

pub record Listing (s c firsts d now-firsts : List ℕ) (n next used count : ℕ) (defined : Bool) (fault : Fault) : Type 0 where
  pub from_here : n ≤ next
  pub most : next ≤ length s
  pub paid : used + 2 ≤ 2 * next
  pub size : length d ≡ length c
  pub firsts_size : length now-firsts ≡ length firsts
  pub counted : 3 * count ≤ next + 1
  pub counted_more : filled (elements_from s next) ≡ true → 3 * count ≤ next
  pub placed : (j : ℕ) → j < count → Lies d (get_or now-firsts j 0) used
  pub macros_are : macros_in s d now-firsts count ++ each (macro_of s) (defined_in (elements_from s next)) ≡ each (macro_of s) (defined_in (elements_from s n))
  pub faults : lower fault (fault_of (each definition_faults (defined_in (elements_from s next)))) ≡ fault_of (each definition_faults (defined_in (elements_from s n)))
  pub defined_is : (defined || filled (defined_in (elements_from s next))) ≡ filled (defined_in (elements_from s n))
  pub last_is : last_in (elements_from s next) ≡ last_in (elements_from s n)
  pub after_is : after_in (elements_from s next) ≡ after_in (elements_from s n)

pub record DefinitionsRead (s c firsts d now-firsts : List ℕ) (n : ℕ) (r : Definitions) : Type 0 where
  pub lists : Listing s c firsts d now-firsts n r.passed.next r.used r.count r.defined r.passed.fault
  pub done : has_body (stretch (elements_from s r.passed.next)) ≡ false
