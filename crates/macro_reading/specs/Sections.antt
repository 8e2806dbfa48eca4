-- The first statement, the list's end and the section: what the functions that read them promise.
use Rattle.std.specs.Prelude.{◌≡◌, Bool, false, cond, not, ◌&&◌, ◌||◌, List, [], ◌∷◌, ◌++◌, ℕ, ◌+◌, ◌≤◌, eqb, length, take, drop}
use Rattle.lists.specs.Lists.{any, if_any, keep}
use Rattle.statements.specs.Faults.{Fault}
use Rattle.statements.specs.Faults.{lower}
use Rattle.statements.specs.StatementAt.{fault_of}
use Rattle.macros.specs.Elements.{Element, is_word, is_end, is_close, places_in, until, from}
use Rattle.macros.specs.Macros.{has_body, from_statement, header_faults}
use Rattle.macros.specs.Conditions.{outer}
use Rattle.macro_changes.specs.Changing.{Kept}
use Rattle.macro_changes.specs.declared.Passed.{Passed}
use Rattle.macro_elements.specs.ElementAt.{elements_from}
use Rattle.macro_reading.specs.Definitions.{stretch}
use Rattle.macro_reading.specs.Headers.{Headable}
use Rattle.macro_reading.specs.declared.Tail.{Tail}

pub record Skips (s : List ℕ) (n r : ℕ) : Type 0 where
  pub from_here : n ≤ r
  pub most : r ≤ length s
  pub is : elements_from s r ≡ from_statement (elements_from s n)

abbrev pub outer_faults : List Element → List ℕ
outer_faults ts = places_in (keep outer ts)

pub record Firsts (s : List ℕ) (n next : ℕ) (fault : Fault) : Type 0 where
  pub from_here : n ≤ next
  pub most : next ≤ length s
  pub faults : lower fault (fault_of (outer_faults (until is_end (elements_from s next)))) ≡ fault_of (outer_faults (until is_end (elements_from s n)))
  pub rest : from is_end (elements_from s next) ≡ from is_end (elements_from s n)

pub record FirstRead (s : List ℕ) (n : ℕ) (r : Passed) : Type 0 where
  pub from_here : n ≤ r.next
  pub most : r.next ≤ length s
  pub fault_is : r.fault ≡ fault_of (outer_faults (until is_end (elements_from s n)))
  pub is : elements_from s r.next ≡ from is_end (elements_from s n)

pub record Tailed (s m c : List ℕ) (n q : ℕ) : Type 0 where
  pub headable : Headable s m c n q
  pub bodiless_is : has_body (stretch (elements_from s n)) ≡ false

-- the faults of the stretch that ends the list, whose bracket is at this place
abbrev pub tail_faults : ℕ → Bool → List Element → List ℕ
tail_faults at defined x =
    header_faults (until is_close x) ++ places_in (take 1 (keep is_word x))
    ++ cond (any is_close x && (defined || any (λ t. not (is_close t || eqb t.byte 10)) x)) [] (at ∷ [])

pub record TailRead (s c d : List ℕ) (n q at : ℕ) (defined : Bool) (r : Tail) : Type 0 where
  pub from_here : n ≤ r.passed.next
  pub most : r.passed.next ≤ length s
  pub kept : Kept c d q
  pub stop_most : r.stop ≤ length s
  pub stop_is : r.stop ≡ if_any (length s) (λ t. t.at + 1) (from is_close (stretch (elements_from s n)))
  pub rest : elements_from s r.passed.next ≡ drop 1 (from is_close (elements_from s n))
  pub fault_is : r.passed.fault ≡ fault_of (tail_faults at defined (stretch (elements_from s n)))
