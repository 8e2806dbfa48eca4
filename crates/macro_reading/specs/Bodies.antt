-- A macro's body or the section in cells: what the function that reads it promises.
use Rattle.std.specs.Prelude.{◌≡◌, cond, List, ℕ, ◌+◌, ◌*◌, ◌≤◌, length, drop}
use Rattle.lists.specs.Lists.{filled}
use Rattle.statements.specs.StatementAt.{fault_of}
use Rattle.macros.specs.Pieces.{pieces_from}
use Rattle.macro_code.specs.Code.{parameter_count, change_count, first_change, behind_changes, body_in}
use Rattle.macro_code.specs.Places as place
use Rattle.macro_changes.specs.Changing.{Kept, parameters_of, inside, behind, stop_of, changes_of, Reading, form_in}
use Rattle.std.specs.Prelude.{is_some}
use Rattle.macro_changes.specs.Changing.{Scope, first_in, count_in}
use Rattle.macro_elements.specs.ElementAt.{elements_from}
use Rattle.macro_reading.specs.declared.Body.{Body}

-- a body with its record at the cell q, from place n on; its bytes begin at start
pub record Bodied (s m c : List ℕ) (x : Scope) (q start n : ℕ) : Type 0 where
  pub params_at : (first_in x) ≡ q + place.parameter_cells
  pub reading : Reading s m c x n ((first_in x) + (count_in x))
  pub starts : start ≤ length s

pub record BodyRead (s c d : List ℕ) (x : Scope) (q start n : ℕ) (r : Body) : Type 0 where
  pub from : n + cond r.closed 1 0 ≤ r.passed.next
  pub most : r.passed.next ≤ length s
  pub kept : Kept c d (q + place.span_cell)
  pub names : parameters_of s d x ≡ parameters_of s c x
  pub count_is : parameter_count d q ≡ (count_in x)
  pub low : (first_in x) + (count_in x) ≤ r.used
  pub room : r.used + 2 * n + cond r.closed 2 0 ≤ (first_in x) + (count_in x) + 2 * r.passed.next
  pub used_is : behind_changes d (first_change d q) (change_count d q) ≡ r.used
  pub body_is : body_in s d q ≡ pieces_from s start (stop_of s (is_some x) n) (changes_of (is_some x) (parameters_of s c x) (stop_of s (is_some x) n) (inside s (is_some x) n))
  pub fault_is : r.passed.fault ≡ fault_of (form_in s (parameters_of s c x) (is_some x) n)
  pub closed_is : r.closed ≡ filled (behind s (is_some x) n)
  pub rest : elements_from s r.passed.next ≡ drop 1 (behind s (is_some x) n)
