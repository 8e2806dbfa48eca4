-- The changes of a body or of the section in cells: what the functions that read them promise.
use Rattle.std.specs.Prelude.{◌≡◌, Bool, true, false, cond, not, ◌&&◌, ◌||◌, List, [], ◌++◌, map, ℕ, ◌+◌, ◌*◌, ◌-◌, ◌≤◌, ◌<◌, length, get_or, set, drop}
use Rattle.layout.specs.Cells.{tab}
use Rattle.lexer.specs.Tokens.{part}
use Rattle.lists.specs.Lists.{if_any, keep}
use Rattle.statements.specs.Faults.{Fault}
use Rattle.std.specs.Bool.{then_some}
use Rattle.std.specs.Prelude.{Option, MatchOption, None, Some, is_some, unwrap_or}
use Rattle.statements.specs.Faults.{lower}
use Rattle.statements.specs.StatementAt.{fault_of}
use Rattle.macros.specs.Elements as spec
use Rattle.macros.specs.Marks.{marked}
use Rattle.macros.specs.Elements.{is_word, is_end, is_mark, is_star, is_close, is_listed, places_in, until, from}
use Rattle.macros.specs.Pieces.{Given, Change, given_of, joins_well, is_argument, number_of, name_faults, changes, call_stop, section_changes, is_stray, is_misplaced, form_faults}
use Rattle.macros.specs.Pieces.Given.{typed, parameter, joined}
use Rattle.macro_code.specs.Code.{high, paired, bytes_at, given_in, changes_in, behind_changes}
use Rattle.macro_code.specs.Kinds.{parameter_of}
use Rattle.macro_code.specs.Places as place
use Rattle.macro_code.specs.declared.Change as coded
use Rattle.macro_code.specs.declared.Change.TheVariants.{Value, Call, Nothing}
use Rattle.macro_code.specs.declared.Given as held
use Rattle.macro_code.specs.declared.Given.TheVariants.{Typed, Parameter, Joined}
use Rattle.macro_elements.specs.ElementAt.{elements_from, argument_value, Lent, Held, FirstBefore}
use Rattle.macro_elements.specs.declared.Element.{Element}
use Rattle.macro_changes.specs.declared.Answer.{Answer}
use Rattle.macro_changes.specs.declared.Ending.{Ending}
use Rattle.macro_changes.specs.declared.Parameters.{Parameters}
use Rattle.macro_changes.specs.declared.Passed.{Passed}
use Rattle.macro_changes.specs.declared.Step.{Step}

-- a body with its parameters, or the section, which has none
abbrev pub Scope : Type 0
Scope = Option Parameters

abbrev pub first_in : Scope → ℕ
first_in None = 0
first_in (Some p) = p.first

abbrev pub count_in : Scope → ℕ
count_in None = 0
count_in (Some p) = p.count

-- the cells below u are what they were
pub record Kept (c d : List ℕ) (u : ℕ) : Type 0 where
  pub size : length d ≡ length c
  pub same : (k : ℕ) → k < u → get_or d k 0 ≡ get_or c k 0

-- the parameters of a body
abbrev pub parameters_of : List ℕ → List ℕ → Scope → List (List ℕ)
parameters_of s c x = tab (count_in x) (λ j. bytes_at s c ((first_in x) + j))

-- a body goes up to its closing bracket, the section to the end
abbrev pub shuts : Bool → spec.Element → Bool
shuts closing t = cond closing (is_close t) false

abbrev pub inside : List ℕ → Bool → ℕ → List spec.Element
inside s closing n = until (shuts closing) (elements_from s n)

abbrev pub behind : List ℕ → Bool → ℕ → List spec.Element
behind s closing n = from (shuts closing) (elements_from s n)

abbrev pub stop_of : List ℕ → Bool → ℕ → ℕ
stop_of s closing n = if_any (length s) (λ t. t.at) (behind s closing n)

-- what is changed, and what is at fault outside calls
unfoldable pub changes_of : Bool → List (List ℕ) → ℕ → List spec.Element → List Change
changes_of true ps stop ts = changes ps stop ts
changes_of false ps stop ts = section_changes stop ts

unfoldable pub wrong_in : Bool → List (List ℕ) → spec.Element → Bool
wrong_in true ps t = is_misplaced ps t
wrong_in false ps t = is_stray ps t

-- a name or an argument as code holds it, with its bytes; and the numbers that go into its cell, its kind and a parameter's number
unfoldable pub given_as : held.Given → List ℕ → Given
given_as Typed w = typed w
given_as (Parameter k) w = parameter k
given_as (Joined k) w = joined w k

abbrev pub kind_in : held.Given → ℕ
kind_in Typed = place.typed_kind
kind_in (Parameter k) = place.parameter_kind
kind_in (Joined k) = place.joined_kind

abbrev pub number_in : held.Given → ℕ
number_in g = unwrap_or (parameter_of g) 0

-- the numbers that go into a change's cell: its kind, and the one beside it
abbrev pub change_kind : coded.Change → ℕ
change_kind (Value k) = place.value_kind
change_kind (Call n) = place.call_kind
change_kind Nothing = place.nothing_kind

abbrev pub change_number : coded.Change → ℕ
change_number (Value k) = k
change_number (Call n) = n
change_number Nothing = 0

-- the number of the parameter with the bytes w, if there is one
abbrev pub Found : List ℕ → List ℕ → Scope → List ℕ → Option ℕ → Type 0
Found s c x w r =
    MatchOption r (number_of (parameters_of s c x) w ≡ count_in x) (λ k. (k ≡ number_of (parameters_of s c x) w) × (k < count_in x))

pub record Judging (s c : List ℕ) (x : Scope) (t : Element) : Type 0 where
  pub held : Held s t
  pub few : (count_in x) < place.half
  pub scoped : (first_in x) + (count_in x) ≤ length c

pub record Judged (s c : List ℕ) (x : Scope) (t : Element) (r : Answer) : Type 0 where
  pub number_low : number_in r.given < place.half
  pub given_is : given_of (parameters_of s c x) (argument_value s t) ≡ given_as r.given (part s t.at t.end)
  pub joins_is : r.joins ≡ joins_well (parameters_of s c x) (argument_value s t)

-- From place n on, with cells from u on
pub record Reading (s m c : List ℕ) (x : Scope) (n u : ℕ) : Type 0 where
  pub lent : Lent s m n
  pub few : (count_in x) < place.half
  pub scoped : (first_in x) + (count_in x) ≤ u
  pub room : u + 2 * length s ≤ length c + 2 * n
  pub wide : length c ≤ 131072

-- t is the first element inside
abbrev pub InsideAt : List ℕ → Bool → ℕ → Element → Type 0
InsideAt s closing n t = FirstBefore (shuts closing) s n t

-- what is passed: nothing yet, an element more, and two stretches
abbrev pub none_passed : ℕ → Passed
none_passed n = record { next = n; fault = None }

abbrev pub passed_over : Passed → Element → Bool → Passed
passed_over p t wrong = record { next = t.next; fault = lower p.fault (then_some wrong t.at) }

abbrev pub passed_both : Passed → Passed → Passed
passed_both p q = record { next = q.next; fault = lower p.fault q.fault }

-- what a call gives: all elements up to its end
abbrev pub given_from : List ℕ → Bool → ℕ → List spec.Element
given_from s closing n = until is_end (inside s closing n)

abbrev pub ends_from : List ℕ → Bool → ℕ → List spec.Element
ends_from s closing n = from is_end (inside s closing n)

-- both ends by one test
abbrev pub ends_given : Bool → spec.Element → Bool
ends_given closing t = shuts closing t || is_end t

-- t is the first that a call gives
pub record GivenAt (s : List ℕ) (closing : Bool) (n : ℕ) (t : Element) : Type 0 where
  pub inner : InsideAt s closing n t
  pub plain : is_end (argument_value s t) ≡ false

abbrev pub argument_faults : List (List ℕ) → List spec.Element → List ℕ
argument_faults ps ts = places_in (keep (λ t. not (is_argument ps t)) ts)

pub record Gives (s c d : List ℕ) (x : Scope) (n u next count : ℕ) (fault : Fault) : Type 0 where
  pub from : n + count ≤ next
  pub most : next ≤ length s
  pub kept : Kept c d u
  pub gives : tab count (λ j. given_in s d (u + place.given_size * j)) ++ map (given_of (parameters_of s c x)) (given_from s (is_some x) next) ≡ map (given_of (parameters_of s c x)) (given_from s (is_some x) n)
  pub places : tab count (λ j. high d (u + place.given_size * j)) ++ places_in (given_from s (is_some x) next) ≡ places_in (given_from s (is_some x) n)
  pub faults : lower fault (fault_of (argument_faults (parameters_of s c x) (given_from s (is_some x) next))) ≡ fault_of (argument_faults (parameters_of s c x) (given_from s (is_some x) n))
  pub ends : ends_from s (is_some x) next ≡ ends_from s (is_some x) n
  pub rest : behind s (is_some x) next ≡ behind s (is_some x) n

pub record GivenUp (s c d : List ℕ) (x : Scope) (n u : ℕ) (r : Step) : Type 0 where
  pub gives : Gives s c d x n u r.passed.next r.count r.passed.fault
  pub done : given_from s (is_some x) r.passed.next ≡ []

-- Some changes: those from place n on are in cells, and the others follow from next on
abbrev pub form_in : List ℕ → List (List ℕ) → Bool → ℕ → List ℕ
form_in s ps closing n = form_faults (wrong_in closing ps) ps (inside s closing n)

pub record Stepped (s c d : List ℕ) (x : Scope) (n u next used count : ℕ) (fault : Fault) : Type 0 where
  pub from : n + count ≤ next
  pub most : next ≤ length s
  pub kept : Kept c d u
  pub low : u ≤ used
  pub room : used + 2 * n ≤ u + 2 * next
  pub faults : lower fault (fault_of (form_in s (parameters_of s c x) (is_some x) next)) ≡ fault_of (form_in s (parameters_of s c x) (is_some x) n)
  pub changes_are : changes_in s d u count ++ changes_of (is_some x) (parameters_of s c x) (stop_of s (is_some x) n) (inside s (is_some x) next) ≡ changes_of (is_some x) (parameters_of s c x) (stop_of s (is_some x) n) (inside s (is_some x) n)
  pub used_is : behind_changes d u count ≡ used
  pub rest : behind s (is_some x) next ≡ behind s (is_some x) n

pub record Changed (s c d : List ℕ) (x : Scope) (n u : ℕ) (r : Step) : Type 0 where
  pub steps : Stepped s c d x n u r.passed.next r.used r.count r.passed.fault
  pub more : n < r.passed.next

pub record ReadChanges (s c d : List ℕ) (x : Scope) (n u : ℕ) (r : Step) : Type 0 where
  pub steps : Stepped s c d x n u r.passed.next r.used r.count r.passed.fault
  pub done : inside s (is_some x) r.passed.next ≡ []

-- From the element t on, with cells from u on
pub record Started (s c : List ℕ) (x : Scope) (t : Element) (u : ℕ) : Type 0 where
  pub held : Held s t
  pub few : (count_in x) < place.half
  pub scoped : (first_in x) + (count_in x) ≤ u
  pub room : u + 2 + 2 * length s ≤ length c + 2 * t.next
  pub wide : length c ≤ 131072

pub record Starred (s m c : List ℕ) (x : Scope) (t : Element) (u : ℕ) : Type 0 where
  pub copy : m ≡ marked s
  pub started : Started s c x t u
  pub star : is_star (argument_value s t) ≡ true

pub record Worded (s c : List ℕ) (x : Scope) (t : Element) (u : ℕ) : Type 0 where
  pub started : Started s c x t u
  pub plain : is_star (argument_value s t) ≡ false

-- the change that begins with the element t, from whatever place it is found
pub record ChangedBy (s c d : List ℕ) (x : Scope) (t : Element) (u : ℕ) (r : Step) : Type 0 where
  pub is : (n : ℕ) → InsideAt s (is_some x) n t → Changed s c d x n u r

pub record NextChange (s c d : List ℕ) (x : Scope) (n u : ℕ) (r : Option Step) : Type 0 where
  pub none : r ≡ None → (d ≡ c) × (inside s (is_some x) n ≡ [])
  pub some : (y : Step) → r ≡ Some y → Changed s c d x n u y

-- the place at fault of a call without a name, or of a name
pub record Named (s : List ℕ) (closing : Bool) (star n : ℕ) (r : Fault) : Type 0 where
  pub is : (v : spec.Element) → v.at ≡ star → r ≡ fault_of (name_faults v (given_from s closing n))

pub record EndsCall (s : List ℕ) (closing : Bool) (n : ℕ) (r : Ending) : Type 0 where
  pub from : n ≤ r.next
  pub most : r.next ≤ length s
  pub stop_most : r.stop ≤ length s
  pub stop_is : r.stop ≡ call_stop (stop_of s closing n) (ends_from s closing n)
  pub on : inside s closing r.next ≡ drop 1 (ends_from s closing n)
  pub rest : behind s closing r.next ≡ behind s closing n

-- a call that gives no more ends here, in a body and in the section alike
pub record EndsHere (s : List ℕ) (n : ℕ) (r : Ending) : Type 0 where
  pub is : (closing : Bool) → given_from s closing n ≡ [] → EndsCall s closing n r

-- a call's own cells
abbrev pub kind_of : ℕ → Fault → ℕ
kind_of count None = paired place.call_kind (count - 1)
kind_of count (Some p) = paired place.nothing_kind 0

abbrev pub used_by : ℕ → ℕ → Fault → ℕ
used_by u count None = u + place.name_cell + place.given_size * count
used_by u count (Some p) = u + place.small_size

pub record Writing (c : List ℕ) (u start stop count : ℕ) (fault : Fault) : Type 0 where
  pub room : u + 2 ≤ length c
  pub wide : u + 2 * count ≤ 1000000
  pub start_low : start < place.half
  pub stop_low : stop < place.half
  pub count_low : count < place.half
  pub named : fault ≡ None → 0 < count

pub record Written (c d : List ℕ) (u start stop count : ℕ) (fault : Fault) (r : ℕ) : Type 0 where
  pub is : d ≡ set (set c u (paired start stop)) (u + place.kind_cell) (kind_of count fault)
  pub used : r ≡ used_by u count fault

-- an element outside calls that is at fault
unfoldable pub wrong_by : Bool → Bool → spec.Element → Bool
wrong_by closing joins t = (is_mark 40 t || is_mark 41 t || is_mark 39 t || not joins) || (closing && (is_word t && not (is_listed t)))

-- the parameter whose value is put in the place of one: the section has none
abbrev pub value_in : Scope → held.Given → Option ℕ
value_in None g = None
value_in (Some p) g = parameter_of g

-- the places that a parameter's value takes in a body
abbrev pub replaced : Element → held.Given → ℕ × ℕ
replaced t Typed = (t.end, unwrap_or t.joined t.end)
replaced t (Parameter k) = (t.at, t.end)
replaced t (Joined k) = (t.end, unwrap_or t.joined t.end)
