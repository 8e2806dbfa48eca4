-- A body's own cells, and what stands behind it.
use mathlib.Core.Path.{◌≡◌, refl, ap, sym, ◌∙◌}
use mathlib.Core.Bool.{Bool, true, false, cond}
use mathlib.Core.List.{List, [], ◌∷◌, ◌++◌, append-nil}
use Prim.Native.Nat.{ℕ, ◌+◌, ◌*◌, ◌≤◌, ◌<◌}
use native.Mathlib.Nat.{le_refl}
use native.Mathlib.Omega.{arith}
use lib.ListN.{length, get_or, set, drop, length-set}
use lib.Seq.{get_or-set_same, get_or-set_other}
use Rattle.statements.specs.LowerLaws.{lower-right}
use Rattle.lists.specs.Lists.{filled, if_any}
use Rattle.std.specs.Prelude.{Option, None, Some, is_some}
use Rattle.statements.specs.Faults.{lower}
use Rattle.statements.specs.StatementAt.{fault_of}
use Rattle.macros.specs.Elements as spec
use Rattle.macros.specs.Elements.{from, stretches}
use Rattle.macros.specs.Pieces.{Change, stretch_changes, called_faults, call_changes, form_faults, pieces_from}
use Rattle.macro_code.specs.Code.{high, low, paired, changes_in, behind_changes, parameter_count, change_count, first_change, body_in}
use Rattle.macro_changes.specs.Changing.{Kept, parameters_of, shuts, inside, behind, stop_of, changes_of, wrong_in, form_in, ReadChanges}
use Rattle.macro_changes.specs.Changing.{Scope, first_in, count_in}
use Rattle.macro_changes.specs.declared.Step.{Step}
use Rattle.macro_changes.proofs.Cells.{first_of, second-of, Agree, kept_set, kept_on, kept-below, kept-agree, parameters-agree, changes-agree}
use Rattle.macro_changes.proofs.Giving.{first_forward}
use Rattle.macro_elements.specs.ElementAt.{elements_from, argument_value, NextElement}
use Rattle.macro_elements.specs.declared.Element.{Element}
use Rattle.macro_reading.specs.Bodies.{Bodied, BodyRead}
use Rattle.macro_reading.proofs.Heading.{whole-from}

-- no changes and no faults of no elements
none-changed : (closing : Bool) (ps : List (List ℕ)) (stop : ℕ) → changes_of closing ps stop [] ≡ []
unfolding changes_of stretches stretch_changes call_changes
none-changed true ps stop = refl
none-changed false ps stop = refl

none-wrong : (w : spec.Element → Bool) (ps : List (List ℕ)) → form_faults w ps [] ≡ []
unfolding form_faults stretches called_faults
none-wrong w ps = refl

-- an element, or none, and what follows
abbrev pub found_from : List ℕ → Option Element → List spec.Element
found_from s None = []
found_from s (Some t) = argument_value s t ∷ elements_from s t.next

pub found_is : {s : List ℕ} {n : ℕ} (o : Option Element) → NextElement s n o → elements_from s n ≡ found_from s o
found_is None k = k.none refl
found_is (Some t) k = (k.some t refl).is

abbrev pub at_or : ℕ → Option Element → ℕ
at_or e None = e
at_or e (Some t) = t.at

abbrev pub next_or : ℕ → Option Element → ℕ
next_or e None = e
next_or e (Some t) = t.next

-- the record
module _ (d : List ℕ) (q a b e f : ℕ) (room : q + 3 ≤ length d) where
  abbrev pub record_cells : List ℕ
  record_cells = set (set d (q + 1) (paired a b)) (q + 2) (paired e f)

  pub span-there : get_or record_cells (q + 1) 0 ≡ paired a b
  span-there = get_or-set_other (set d (q + 1) (paired a b)) (q + 2) (q + 1) (paired e f) 0 (λ z. omega arith) ∙ get_or-set_same d (q + 1) (paired a b) 0 (omega arith)

  pub counts-there : get_or record_cells (q + 2) 0 ≡ paired e f
  counts-there = get_or-set_same (set d (q + 1) (paired a b)) (q + 2) (paired e f) 0 (simp length-set (omega arith))

  pub record-kept : Kept d record_cells (q + 1)
  record-kept = kept_on (kept_set d (q + 1) (paired a b) (q + 1) (le_refl (q + 1))) (kept_set (set d (q + 1) (paired a b)) (q + 2) (paired e f) (q + 1) (omega arith)) (le_refl (q + 1))

  pub above-there : (hi : ℕ) → Agree d record_cells (q + 3) hi
  above-there hi =
      record {
        same =
            λ i l h.
            get_or-set_other (set d (q + 1) (paired a b)) (q + 2) i (paired e f) 0 (λ z. omega arith)
            ∙ get_or-set_other d (q + 1) i (paired a b) 0 (λ z. omega arith);
      }

-- all that is read
module _ {s c d : List ℕ} {x : Scope} {n u : ℕ} {r : Step} (g : ReadChanges s c d x n u r) where
  pub all-changes : changes_in s d u r.count ≡ changes_of (is_some x) (parameters_of s c x) (stop_of s (is_some x) n) (inside s (is_some x) n)
  all-changes =
      sym (append-nil (changes_in s d u r.count))
      ∙ ap (λ (cs : List Change). changes_in s d u r.count ++ cs) (sym (ap (changes_of (is_some x) (parameters_of s c x) (stop_of s (is_some x) n)) g.done ∙ none-changed (is_some x) (parameters_of s c x) (stop_of s (is_some x) n)))
      ∙ g.steps.changes_are

  pub fault-there : r.passed.fault ≡ fault_of (form_in s (parameters_of s c x) (is_some x) n)
  fault-there =
      sym (lower-right r.passed.fault)
      ∙ ap (λ (ns : List ℕ). lower r.passed.fault (fault_of ns)) (sym (ap (form_faults (wrong_in (is_some x) (parameters_of s c x)) (parameters_of s c x)) g.done ∙ none-wrong (wrong_in (is_some x) (parameters_of s c x)) (parameters_of s c x)))
      ∙ g.steps.faults

module _ {s m c d : List ℕ} {x : Scope} {q start n : ℕ} (p : Bodied s m c x q start n) {r : Step} (g : ReadChanges s c d x n ((first_in x) + (count_in x)) r)
    (o : Option Element) (k : NextElement s r.passed.next o) where
  abbrev closed : Bool
  closed = is_some o

  abbrev stop : ℕ
  stop = at_or (length s) o

  abbrev past : ℕ
  past = next_or r.passed.next o

  abbrev first : ℕ
  first = (first_in x) + (count_in x)

  pub record-room : q + 3 ≤ length d
  record-room = omega (arith, p.params_at, p.reading.room, p.reading.lent.most, g.steps.kept.size)

  pub stop_low : stop < 65536
  stop_low = go o k
    where
      go : (o : Option Element) → NextElement s r.passed.next o → at_or (length s) o < 65536
      go None k = omega (arith, p.reading.lent.size)
      go (Some t) k = let h = (k.some t refl).held in omega (arith, h.own, h.ends, h.small)

  pub count_low : r.count < 65536
  count_low = omega (arith, g.steps.from, g.steps.most, p.reading.lent.size)

  abbrev written : List ℕ
  written = record_cells d q start stop (count_in x) r.count record-room

  none_after : elements_from s r.passed.next ≡ found_from s o
  none_after = found_is o k

  rest_is : behind s (is_some x) n ≡ found_from s o
  rest_is = sym g.steps.rest ∙ whole-from (shuts (is_some x)) (elements_from s r.passed.next) g.done ∙ none_after

  span-is : (high written (q + 1) ≡ start) × (low written (q + 1) ≡ stop)
  span-is = (rw (span-there d q start stop (count_in x) r.count record-room) (first_of start stop stop_low), rw (span-there d q start stop (count_in x) r.count record-room) (second-of start stop stop_low))

  counts-are : (parameter_count written q ≡ (count_in x)) × (change_count written q ≡ r.count)
  counts-are = (rw (counts-there d q start stop (count_in x) r.count record-room) (first_of (count_in x) r.count count_low), rw (counts-there d q start stop (count_in x) r.count record-room) (second-of (count_in x) r.count count_low))

  first_is : first_change written q ≡ first
  first_is = rw counts-are.0 (omega (arith, p.params_at))

  same-changes : (changes_in s written first r.count ≡ changes_in s d first r.count) × (behind_changes written first r.count ≡ behind_changes d first r.count)
  same-changes = changes-agree (above-there d q start stop (count_in x) r.count record-room (behind_changes d first r.count)) s r.count first (omega (arith, p.params_at)) (le_refl (behind_changes d first r.count))

  stop_is : stop ≡ stop_of s (is_some x) n
  stop_is = sym (ap (λ (ts : List spec.Element). if_any (length s) (λ y. y.at) ts) rest_is ∙ go o)
    where
      go : (o : Option Element) → if_any (length s) (λ y. y.at) (found_from s o) ≡ at_or (length s) o
      go None = refl
      go (Some t) = refl

  forward : (n + cond closed 1 0 ≤ past) × (past ≤ length s) × (r.used + 2 * n + cond closed 2 0 ≤ first + 2 * past)
  forward = go o k
    where
      go : (o : Option Element) → NextElement s r.passed.next o → (n + cond (is_some o) 1 0 ≤ next_or r.passed.next o) × (next_or r.passed.next o ≤ length s)
          × (r.used + 2 * n + cond (is_some o) 2 0 ≤ first + 2 * next_or r.passed.next o)
      go None k = (omega (arith, g.steps.from), g.steps.most, omega (arith, g.steps.room))
      go (Some t) k = let e = k.some t refl in let z = first_forward e in (omega (arith, g.steps.from), e.held.most, omega (arith, g.steps.room))

  after_is : elements_from s past ≡ drop 1 (behind s (is_some x) n)
  after_is = go o none_after ∙ sym (ap (drop 1) rest_is)
    where
      go : (o : Option Element) → elements_from s r.passed.next ≡ found_from s o → elements_from s (next_or r.passed.next o) ≡ drop 1 (found_from s o)
      go None e = e
      go (Some t) e = refl

  closed_is : closed ≡ filled (behind s (is_some x) n)
  closed_is = sym (ap filled rest_is ∙ go o)
    where
      go : (o : Option Element) → filled (found_from s o) ≡ is_some o
      go None = refl
      go (Some t) = refl

  pub body-done : BodyRead s c written x q start n (record { passed = record { next = past; fault = r.passed.fault }; used = r.used; closed = closed })
  unfolding body_in
  body-done =
      record {
        from = forward.0;
        most = forward.1;
        kept = kept_on (kept-below g.steps.kept (omega (arith, p.params_at))) (record-kept d q start stop (count_in x) r.count record-room) (le_refl (q + 1));
        names =
            parameters-agree (above-there d q start stop (count_in x) r.count record-room ((first_in x) + (count_in x))) s x (omega (arith, p.params_at)) (le_refl ((first_in x) + (count_in x)))
            ∙ parameters-agree (kept-agree g.steps.kept) s x (omega arith) (le_refl ((first_in x) + (count_in x)));
        count_is = counts-are.0;
        low = g.steps.low;
        room = forward.2;
        used_is = (λ i. behind_changes written (first_is i) (counts-are.1 i)) ∙ same-changes.1 ∙ g.steps.used_is;
        body_is =
            (λ i. pieces_from s (span-is.0 i) ((span-is.1 ∙ stop_is) i) (changes_in s written (first_is i) (counts-are.1 i)))
            ∙ ap (pieces_from s start (stop_of s (is_some x) n)) (same-changes.0 ∙ all-changes g);
        fault_is = fault-there g;
        closed_is = closed_is;
        rest = after_is;
      }
