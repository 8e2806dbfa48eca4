-- Definitions one after the other in cells.
use mathlib.Core.Path.{◌≡◌, refl, ap, sym, ◌∙◌}
use mathlib.Core.Bool.{Bool, true, false, cond, ◌||◌, false≢true, or-true}
use mathlib.Core.List.{List, [], ◌∷◌, ◌++◌, append_assoc, append-nil}
use Rattle.std.specs.Prelude.{Option, Some, unwrap_or}
use Rattle.std.specs.Option.{is_some}
use Prim.Native.Nat.{ℕ, ◌+◌, ◌*◌, ◌/◌, ◌≤◌, ◌<◌}
use native.Mathlib.Nat.{le_refl}
use native.Mathlib.Decide.{dec_lt}
use native.Mathlib.Omega.{arith}
use lib.ListN.{length, get_or, set, length-set}
use lib.Seq.{get_or-set_same, get_or-set_other}
use Rattle.layout.specs.Cells.{tab}
use Rattle.lists.specs.Lists.{each, filled}
use Rattle.statements.specs.Faults.{Fault}
use Rattle.std.specs.Prelude.{None}
use Rattle.statements.specs.Faults.{lower}
use Rattle.statements.specs.FaultLaws.{fault-both}
use Rattle.statements.specs.StatementAt.{fault_of}
use Rattle.macros.specs.Elements as spec
use Rattle.macros.specs.Macros.{Macro, has_body, macro_of, definition_faults}
use Rattle.macros.specs.Pieces.{pieces_from}
use Rattle.macro_code.specs.Code.{high, low, bytes_at, parameter_count, change_count, first_change, changes_in, behind_changes, body_in, macro_in, macros_in}
use Rattle.macro_changes.specs.Changing.{Kept}
use Rattle.macro_changes.proofs.Cells.{tab-cong, tab-last, kept-agree, bytes-agree, changes-agree, behind-from}
use Rattle.macro_changes.proofs.Giving.{lower-assoc}
use Rattle.macro_elements.specs.ElementAt.{elements_from}
use Rattle.macro_reading.specs.Definitions.{stretch, defined_in, last_in, after_in, Defining, Defined, Listable, Lies, Listing}
use Rattle.macro_reading.specs.declared.Definition.{Definition}
use Rattle.macro_reading.proofs.Stretching.{defined-on, last_on, after_on}

-- a macro stays what it is where the cells before q do
module _ {c d : List ℕ} {q : ℕ} (k : Kept c d q) (a : ℕ) (l : Lies c a q) where
  cell_of : (i : ℕ) → i ≤ 2 → get_or d (a + i) 0 ≡ get_or c (a + i) 0
  cell_of i h = k.same (a + i) (omega (arith, l.own))

  all_same : (s : List ℕ) → (changes_in s d (first_change c a) (change_count c a) ≡ changes_in s c (first_change c a) (change_count c a)) × (behind_changes d (first_change c a) (change_count c a) ≡ behind_changes c (first_change c a) (change_count c a))
  all_same s = changes-agree (kept-agree k) s (change_count c a) (first_change c a) (omega arith) l.all_of_it

  body_same : (s : List ℕ) → body_in s d a ≡ body_in s c a
  unfolding body_in
  body_same s =
      let e : get_or d (a + 1) 0 ≡ get_or c (a + 1) 0 = cell_of 1 (omega arith) in
      let f : get_or d (a + 2) 0 ≡ get_or c (a + 2) 0 = cell_of 2 (le_refl 2) in
      rw (e, f) (ap (pieces_from s (high c (a + 1)) (low c (a + 1))) (all_same s).0)

  pub macro-same : (s : List ℕ) → macro_in s d a ≡ macro_in s c a
  unfolding macro_in
  macro-same s =
      let f : get_or d (a + 2) 0 ≡ get_or c (a + 2) 0 = cell_of 2 (le_refl 2) in
      let n = bytes-agree (kept-agree k) s a (omega arith) (omega (arith, l.own)) in
      let p = ap (λ (y : ℕ). tab (y / 65536) (λ j. bytes_at s d (a + 3 + j))) f ∙ tab-cong (parameter_count c a) (λ j. bytes_at s d (a + 3 + j)) (λ j. bytes_at s c (a + 3 + j)) (λ j m. bytes-agree (kept-agree k) s (a + 3 + j) (omega arith) (omega (arith, l.own))) in
      let b = body_same s in
      λ i. record { name = n i; params = p i; body = b i }

  pub lies_same : Lies d a q
  lies_same =
      let f : get_or d (a + 2) 0 ≡ get_or c (a + 2) 0 = cell_of 2 (le_refl 2) in
      record { own = rw f l.own; all_of_it = rw f (rw (all_same []).1 l.all_of_it) }

-- a definition takes a byte at least, and two where it has a name
pub step-least : (w : Bool) → 1 ≤ cond w 2 1
step-least true = omega arith
step-least false = omega arith

pub lies-on : {c : List ℕ} {a q r : ℕ} → Lies c a q → q ≤ r → Lies c a r
lies-on h l = record { own = omega (arith, h.own); all_of_it = omega (arith, h.all_of_it) }

module _ {s m c firsts : List ℕ} {n : ℕ} (p : Listable s m c firsts n) where
  pub listing_none : Listing s c firsts c firsts n n 0 0 false None
  unfolding macros_in tab
  listing_none =
      record {
        from_here = le_refl n;
        most = p.lent.most;
        paid = omega (arith, p.behind_bracket);
        size = refl;
        firsts_size = refl;
        counted = omega arith;
        counted_more = λ e. omega arith;
        placed = λ j l. absurd (omega arith);
        macros_are = refl;
        faults = refl;
        defined_is = refl;
        last_is = refl;
        after_is = refl;
      }

  module _ {d f : List ℕ} {i q k : ℕ} {b : Bool} {g : Fault} (h : Listing s c firsts d f n i q k b g) where
    macros-kept : {e : List ℕ} → Kept d e q → macros_in s e f k ≡ macros_in s d f k
    unfolding macros_in
    macros-kept {e} o = tab-cong k (λ j. macro_in s e (get_or f j 0)) (λ j. macro_in s d (get_or f j 0)) (λ j l. macro-same o (get_or f j 0) (h.placed j l) s)

    pub listing-kept : {e : List ℕ} → Kept d e q → Listing s c firsts e f n i q k b g
    listing-kept o =
        record {
          from_here = h.from_here;
          most = h.most;
          paid = h.paid;
          size = o.size ∙ h.size;
          firsts_size = h.firsts_size;
          counted = h.counted;
          counted_more = h.counted_more;
          placed = λ j l. lies_same o (get_or f j 0) (h.placed j l);
          macros_are = ap (λ (ms : List Macro). ms ++ each (macro_of s) (defined_in (elements_from s i))) (macros-kept o) ∙ h.macros_are;
          faults = h.faults;
          defined_is = h.defined_is;
          last_is = h.last_is;
          after_is = h.after_is;
        }

    module _ {e : List ℕ} {u : Option Definition} {r : Definition} (y : Defined s d e i q u) (o : u ≡ Some r) where
      z : Defining s e i q r
      z = y.defining r o

      with-body : has_body (stretch (elements_from s i)) ≡ true
      with-body = sym y.opened_is ∙ ap is_some o

      some-there : (ts : List spec.Element) → has_body (stretch ts) ≡ true → filled ts ≡ true
      some-there [] w = absurd (false≢true w)
      some-there (t ∷ ts) w = refl

      pub few : 3 * k ≤ i
      few = h.counted_more (some-there (elements_from s i) with-body)

      pub below : k < length f
      below = omega (arith, few, z.from_here, z.most, step-least (is_some r.used), p.lent.size, p.macros_room, h.firsts_size)

      abbrev f' : List ℕ
      f' = set f k q

      abbrev q' : ℕ
      q' = unwrap_or r.used q

      abbrev k' : ℕ
      k' = k + cond (is_some r.used) 1 0

      same-below : (j : ℕ) → j < k → get_or f' j 0 ≡ get_or f j 0
      same-below j l = get_or-set_other f k j q 0 (λ w. omega arith)

      own_first : get_or f' k 0 ≡ q
      own_first = get_or-set_same f k q 0 below

      new-lies : (u : ℕ) → r.used ≡ Some u → Lies e q u
      new-lies u w = record { own = omega (arith, z.used_is u w, behind-from e (change_count e q) (first_change e q)); all_of_it = omega (arith, z.used_is u w) }

      old-lies : (j : ℕ) → j < k → Lies e (get_or f' j 0) q
      old-lies j l = rw (same-below j l) (lies_same y.kept (get_or f j 0) (h.placed j l))

      placed-now : (v : Option ℕ) → r.used ≡ v → (j : ℕ) → j < k + cond (is_some v) 1 0 → Lies e (get_or f' j 0) (unwrap_or v q)
      placed-now None w j l = old-lies j (omega arith)
      placed-now (Some u) w j l = go (dec_lt j k)
        where
          go : Dec (j < k) → Lies e (get_or f' j 0) u
          go (yes m) = lies-on (old-lies j m) (omega (arith, z.low u w))
          go (no m) = let x : j ≡ k = omega arith in rw (x, own_first) (new-lies u w)

      old-macros : tab k (λ j. macro_in s e (get_or f' j 0)) ≡ macros_in s d f k
      unfolding macros_in
      old-macros = tab-cong k (λ j. macro_in s e (get_or f' j 0)) (λ j. macro_in s d (get_or f j 0)) (λ j l. ap (macro_in s e) (same-below j l) ∙ macro-same y.kept (get_or f j 0) (h.placed j l) s)

      macros-now : (w : Bool) → macros_in s e f' (k + cond w 1 0) ≡ macros_in s d f k ++ cond w (macro_in s e q ∷ []) []
      unfolding macros_in
      macros-now true = tab-last k (λ j. macro_in s e (get_or f' j 0)) ∙ (let o = old-macros in let x = ap (macro_in s e) own_first in λ i. o i ++ (x i ∷ []))
      macros-now false =
          let n : k + 0 ≡ k = omega arith in
          ap (λ (j : ℕ). tab j (λ j. macro_in s e (get_or f' j 0))) n ∙ old-macros ∙ sym (append-nil (macros_in s d f k))

      abbrev us : List spec.Element
      us = elements_from s i

      more : defined_in us ≡ stretch us ∷ defined_in (elements_from s r.passed.next)
      more = defined-on us with-body ∙ ap (λ (ts : List spec.Element). stretch us ∷ defined_in ts) (sym z.rest)

      paid-now : (v : Option ℕ) → r.used ≡ v → unwrap_or v q + 2 ≤ 2 * r.passed.next
      paid-now (Some u) w = z.paid u w
      paid-now None w = omega (arith, h.paid, z.from_here, step-least (is_some r.used))

      count-now : (w : Bool) → is_some r.used ≡ w → (3 * (k + cond w 1 0) ≤ r.passed.next + 1) × (filled (elements_from s r.passed.next) ≡ true → 3 * (k + cond w 1 0) ≤ r.passed.next)
      count-now false x = (omega (arith, few, z.from_here, step-least (is_some r.used)), λ c. omega (arith, few, z.from_here, step-least (is_some r.used)))
      count-now true x = (omega (arith, few, steps), λ c. let m = z.closed_more x c in omega (arith, few))
        where
          steps : i + 2 ≤ r.passed.next
          steps = rw x at z.from_here

      pub listing-on : Listing s c firsts e f' n r.passed.next q' k' true (lower g r.passed.fault)
      listing-on =
          let rest = defined_in (elements_from s r.passed.next) in
          record {
            from_here = omega (arith, h.from_here, z.from_here);
            most = z.most;
            paid = paid-now r.used refl;
            size = y.kept.size ∙ h.size;
            firsts_size = length-set f k q ∙ h.firsts_size;
            counted = (count-now (is_some r.used) refl).0;
            counted_more = (count-now (is_some r.used) refl).1;
            placed = placed-now r.used refl;
            macros_are =
                ap (λ (ms : List Macro). ms ++ each (macro_of s) rest) (macros-now (is_some r.used))
                ∙ append_assoc (macros_in s d f k) (cond (is_some r.used) (macro_in s e q ∷ []) []) (each (macro_of s) rest)
                ∙ ap (λ (ms : List Macro). macros_in s d f k ++ (ms ++ each (macro_of s) rest)) (sym z.macro_is)
                ∙ ap (λ (xs : List (List spec.Element)). macros_in s d f k ++ each (macro_of s) xs) (sym more)
                ∙ h.macros_are;
            faults =
                lower-assoc g r.passed.fault (fault_of (each definition_faults rest))
                ∙ ap (lower g)
                (ap (λ (x : Fault). lower x (fault_of (each definition_faults rest))) z.fault_is
                ∙ sym (fault-both (definition_faults (stretch us)) (each definition_faults rest))
                ∙ ap (λ (xs : List (List spec.Element)). fault_of (each definition_faults xs)) (sym more))
                ∙ h.faults;
            defined_is = sym (sym h.defined_is ∙ ap (λ (xs : List (List spec.Element)). b || filled xs) more ∙ or-true b);
            last_is = ap last_in z.rest ∙ sym (last_on us with-body) ∙ h.last_is;
            after_is = ap after_in z.rest ∙ sym (after_on us with-body) ∙ h.after_is;
          }
