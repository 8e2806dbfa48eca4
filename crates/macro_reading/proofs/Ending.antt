-- The first statement, and the list's end.
use mathlib.Core.Path.{◌≡◌, refl, ap, sym, ◌∙◌}
use mathlib.Core.Bool.{Bool, true, false, cond, not, ◌&&◌, ◌||◌, true≢false, or-false}
use mathlib.Core.List.{List, [], ◌∷◌, ◌++◌, append_assoc, append-nil}
use Rattle.std.specs.Prelude.{Option, Some, None, is_some}
use Rattle.std.specs.Bool.{then_some}
use Rattle.std.proofs.lemmas.Bool.{or_parts}
use Rattle.std.proofs.lemmas.List.Folds.{list_any-append}
use Rattle.std.proofs.lemmas.List.Elements.{filter-append}
use Rattle.statements.specs.LowerLaws.{lower-right}
use Rattle.macros.proofs.AcceptedLaws.{found-has}
use Rattle.macro_reading.proofs.Reading.{found_from, found_is, next_or}
use Prim.Native.Nat.{ℕ, ◌+◌, ◌≤◌}
use native.Mathlib.Nat.{le_refl}
use native.Mathlib.Omega.{arith}
use lib.Dec.{eqb}
use lib.ListN.{length, take, drop}
use Rattle.lists.specs.Lists.{all, any, filled, if_any, keep}
use Rattle.statements.specs.Faults.{Fault}
use Rattle.statements.specs.Faults.{lower}
use Rattle.statements.specs.FaultLaws.{fault-both}
use Rattle.statements.specs.StatementAt.{fault_of}
use Rattle.syntax.specs.Verdict.{lowest}
use Rattle.syntax.specs.Items.Sort.{end}
use Rattle.macros.specs.Elements as spec
use Rattle.macros.specs.Elements.{is_word, is_end, is_star, is_open, is_close, is_bracket, is_mark, places_in, until, from}
use Rattle.macros.specs.Macros.{from_statement, header_faults}
use Rattle.macros.proofs.SortLaws.{close-no-word}
use Rattle.macro_changes.proofs.Giving.{lower-assoc, keep-first, one-fault, first_forward, stretch-on, rest-on}
use Rattle.macro_changes.proofs.Searching.{until-on, until-off, from_on, from-off}
use Rattle.macro_elements.specs.ElementAt.{joined_at, elements_from, argument_value, Lent, FirstElement, FirstBefore, NextElement}
use Rattle.macro_elements.specs.declared.Element.{Element}
use Rattle.macro_reading.specs.Definitions.{stretch}
use Rattle.macro_reading.specs.Headers.{placed, heading, first_word, any_there, HeaderRead}
use Rattle.macros.specs.Conditions.{outer}
use Rattle.macro_reading.specs.Sections.{outer_faults, Firsts, FirstRead, Tailed, tail_faults, TailRead}
use Rattle.macro_reading.specs.declared.Header.{Header}
use Rattle.macro_reading.proofs.Heading.{whole-from}
use Rattle.macro_reading.proofs.Stretching.{opened, Unopened, unopened, until-stretch, from-stretch, any_found}

abbrev plain : spec.Element → Bool
plain t = not (is_end t)

module _ {s : List ℕ} {n : ℕ} {t : Element} (k : FirstElement s n t) where
  abbrev v : spec.Element
  v = argument_value s t

  pub end_on : is_end v ≡ true → from_statement (elements_from s n) ≡ from_statement (elements_from s t.next)
  end_on e =
      let o : plain v ≡ false = ap not e in
      ap from_statement k.is ∙ from_on plain v (elements_from s t.next) o

  pub end-off : is_end v ≡ false → elements_from s n ≡ from_statement (elements_from s n)
  end-off e =
      let o : plain v ≡ true = ap not e in
      k.is ∙ sym (ap from_statement k.is ∙ from-off plain v (elements_from s t.next) o)

pub end-none : (s : List ℕ) (n : ℕ) → elements_from s n ≡ [] → elements_from s n ≡ from_statement (elements_from s n)
end-none s n x = x ∙ sym (ap from_statement x)

pub firsts-none : {s m : List ℕ} {n : ℕ} → Lent s m n → Firsts s n n None
firsts-none {s} {m} {n} l = record { from_here = le_refl n; most = l.most; faults = refl; rest = refl }

module _ {s : List ℕ} {n i : ℕ} {f : Fault} (g : Firsts s n i f) where
  module _ {t : Element} (k : FirstBefore is_end s i t) where
    pub firsts-on : (b : Bool) → b ≡ outer (argument_value s t) → Firsts s n t.next (lower f (then_some b t.at))
    firsts-on b e =
        let on = stretch-on k in
        let ts = until is_end (elements_from s t.next) in
        record {
          from_here = let z = first_forward k.first in omega (arith, g.from_here);
          most = k.first.held.most;
          faults =
              ap (λ (y : Fault). lower (lower f y) (fault_of (outer_faults ts))) (one-fault b t.at)
              ∙ lower-assoc f (fault_of (cond b (t.at ∷ []) [])) (fault_of (outer_faults ts))
              ∙ ap (lower f)
              (sym (fault-both (cond b (t.at ∷ []) []) (outer_faults ts))
              ∙ ap (λ (y : Bool). fault_of (cond y (t.at ∷ []) [] ++ outer_faults ts)) e
              ∙ ap fault_of (sym (keep-first outer (argument_value s t) ts))
              ∙ ap (λ (us : List spec.Element). fault_of (outer_faults us)) (sym on))
              ∙ g.faults;
          rest = sym (rest-on k) ∙ g.rest;
        }

  pub first_done : until is_end (elements_from s i) ≡ [] → FirstRead s n (record { next = i; fault = f })
  first_done h =
      record {
        from_here = g.from_here;
        most = g.most;
        fault_is = sym (lower-right f) ∙ ap (λ (ts : List spec.Element). lower f (fault_of (outer_faults ts))) (sym h) ∙ g.faults;
        is = sym (whole-from is_end (elements_from s i) h) ∙ g.rest;
      }

-- an element that joins something joins nothing outside a body
joins-none : (i : Bool) (s : List ℕ) (e : ℕ) (o : Option ℕ) → not (all (λ y. i && false) (joined_at s e o)) ≡ is_some o
joins-none i s e None = refl
joins-none true s e (Some b) = refl
joins-none false s e (Some b) = refl

pub outer-is : (s : List ℕ) (t : Element) → (is_star (argument_value s t) || (is_bracket (argument_value s t) || is_mark 39 (argument_value s t) || is_some t.joined)) ≡ outer (argument_value s t)
outer-is s t = ap (λ (b : Bool). is_star (argument_value s t) || (is_bracket (argument_value s t) || is_mark 39 (argument_value s t) || b)) (sym (joins-none (spec.is_identifier (argument_value s t)) s t.end t.joined))

-- The stretch that ends the list

-- where the list stops, with its bracket or at the end
abbrev pub stop_or : ℕ → Option Element → ℕ
stop_or e None = e
stop_or e (Some b) = b.at + 1

first-fault : (z : Option ℕ) → z ≡ fault_of (placed z)
unfolding lowest
first-fault None = refl
first-fault (Some z) = refl

abbrev lined : spec.Element → Bool
lined t = not (is_close t || eqb t.byte 10)

heading-lined : (us : List spec.Element) → any lined (until is_bracket us) ≡ any_there (until is_bracket us)
heading-lined [] = refl
heading-lined (t ∷ ts) = go (is_bracket t) refl (heading-lined ts)
  where
    go : (b : Bool) → is_bracket t ≡ b → any lined (until is_bracket ts) ≡ any_there (until is_bracket ts) → any lined (until is_bracket (t ∷ ts)) ≡ any_there (until is_bracket (t ∷ ts))
    go true e h = let x = until-off is_bracket t ts e in ap (any lined) x ∙ sym (ap any_there x)
    go false e h =
        let x = until-on is_bracket t ts e in
        let c : is_close t ≡ false = (or_parts (is_open t) (is_close t) e).1 in
        ap (any lined) x ∙ (λ i. not (c i || eqb t.byte 10) || h i) ∙ sym (ap any_there x)

module _ {s m c : List ℕ} {n q : ℕ} (p : Tailed s m c n q) {d : List ℕ} {h : Header} (g : HeaderRead s c d n q h) (o : Option Element) (k : NextElement s h.passed.next o) where
  abbrev us : List spec.Element
  us = elements_from s n

  abbrev x : List spec.Element
  x = stretch us

  abbrev closed : Bool
  closed = is_some o

  un : Unopened us
  un = go (from is_bracket us) refl
    where
      go : (ts : List spec.Element) → from is_bracket us ≡ ts → Unopened us
      go [] e = unopened us (ap (λ (ys : List spec.Element). if_any false is_open ys) e)
      go (t ∷ ts) e = goes (is_open t) refl
        where
          goes : (z : Bool) → is_open t ≡ z → Unopened us
          goes true o = absurd (true≢false (sym (any_found is_open x ∙ ap filled (opened us t ts e o).body_is) ∙ p.bodiless_is))
          goes false o = unopened us (ap (λ (ys : List spec.Element). if_any false is_open ys) e ∙ o)

  from-close : from is_close us ≡ found_from s o
  from-close = un.rest_is ∙ sym g.heads.rest ∙ whole-from is_bracket (elements_from s h.passed.next) g.done ∙ found_is o k

  first-close : (b : Element) → o ≡ Some b → is_close (argument_value s b) ≡ true
  first-close b e = found-has is_close us (argument_value s b) (elements_from s b.next) (from-close ∙ ap (found_from s) e)

  head_is : until is_close us ≡ heading s n
  head_is = sym (until-stretch us) ∙ un.header_is

  whole : x ≡ heading s n ++ take 1 (found_from s o)
  whole = λ i. head_is i ++ take 1 (from-close i)

  words-there : places_in (take 1 (keep is_word x)) ≡ placed h.first
  words-there =
      ap (λ (ts : List spec.Element). places_in (take 1 ts)) (ap (keep is_word) whole ∙ filter-append is_word (heading s n) (take 1 (found_from s o)) ∙ go o refl)
      ∙ sym g.heads.first_is
      ∙ ap (λ (ts : List spec.Element). take 1 (placed h.first ++ first_word ts)) g.done
      ∙ goes h.first
    where
      go : (z : Option Element) → o ≡ z → keep is_word (heading s n) ++ keep is_word (take 1 (found_from s z)) ≡ keep is_word (heading s n)
      go None e = append-nil (keep is_word (heading s n))
      go (Some b) e = ap (λ (y : Bool). keep is_word (heading s n) ++ cond y (argument_value s b ∷ []) []) (close-no-word (argument_value s b) (first-close b e)) ∙ append-nil (keep is_word (heading s n))

      goes : (z : Option ℕ) → take 1 (placed z ++ first_word []) ≡ placed z
      goes None = refl
      goes (Some w) = refl

  some-there : any lined x ≡ h.some
  some-there =
      ap (any lined) whole
      ∙ list_any-append lined (heading s n) (take 1 (found_from s o))
      ∙ (λ i. heading-lined us i || last_none o refl i)
      ∙ or-false (any_there (heading s n))
      ∙ sym g.heads.some_is
      ∙ ap (λ (ts : List spec.Element). h.some || any_there ts) g.done
      ∙ or-false h.some
    where
      last_none : (z : Option Element) → o ≡ z → any lined (take 1 (found_from s z)) ≡ false
      last_none None e = refl
      last_none (Some b) e = ap (λ (y : Bool). not (y || eqb (argument_value s b).byte 10) || false) (first-close b e)

  closed-there : any is_close x ≡ closed
  closed-there = any_found is_close x ∙ ap filled (from-stretch us ∙ ap (take 1) from-close) ∙ go o
    where
      go : (z : Option Element) → filled (take 1 (found_from s z)) ≡ is_some z
      go None = refl
      go (Some b) = refl

  pub tail-fault : (at : ℕ) (defined : Bool)
      → lower h.passed.fault (lower h.first (then_some (not (closed && (defined || h.some))) at)) ≡ fault_of (tail_faults at defined x)
  tail-fault at defined =
      let one = header_faults (heading s n) in
      let two = placed h.first in
      let three = cond (closed && (defined || h.some)) [] (at ∷ []) in
      (λ i. lower h.passed.fault (lower (first-fault h.first i) (one-fault (not (closed && (defined || h.some))) at i)))
      ∙ (λ i. lower (head-fault i) (lower (fault_of two) (turned₁ (closed && (defined || h.some)) i)))
      ∙ ap (lower (fault_of one)) (sym (fault-both two three))
      ∙ sym (fault-both one (two ++ three))
      ∙ ap fault_of (sym (append_assoc one two three))
      ∙ sym (λ i. fault_of ((header_faults (un.header_is i) ++ words-there i) ++ cond (closed-there i && (defined || some-there i)) [] (at ∷ [])))
    where
      head-fault : h.passed.fault ≡ fault_of (header_faults (heading s n))
      head-fault = sym (lower-right h.passed.fault) ∙ ap (λ (ts : List spec.Element). lower h.passed.fault (fault_of (header_faults ts))) (sym g.done) ∙ g.heads.faults

      turned₁ : (z : Bool) → fault_of (cond (not z) (at ∷ []) []) ≡ fault_of (cond z [] (at ∷ []))
      turned₁ true = refl
      turned₁ false = refl

  pub tail-read : (at : ℕ) (defined : Bool) {f : Fault} → f ≡ fault_of (tail_faults at defined x) → {stop next : ℕ} → stop ≡ stop_or (length s) o → next ≡ next_or h.passed.next o
      → TailRead s c d n q at defined (record { passed = record { next = next; fault = f }; stop = stop })
  tail-read at defined e {stop} {next} ss nn =
      record {
        from_here = rw nn ahead.0;
        most = rw nn ahead.1;
        kept = g.heads.kept;
        stop_most = rw ss ahead.2;
        stop_is = ss ∙ sym (ap (λ (ts : List spec.Element). if_any (length s) (λ t. t.at + 1) ts) (from-stretch us ∙ ap (take 1) from-close) ∙ stops o);
        rest = ap (elements_from s) nn ∙ goes o (found_is o k) ∙ sym (ap (drop 1) from-close);
        fault_is = e;
      }
    where
      stops : (z : Option Element) → if_any (length s) (λ t. t.at + 1) (take 1 (found_from s z)) ≡ stop_or (length s) z
      stops None = refl
      stops (Some b) = refl

      goes : (z : Option Element) → elements_from s h.passed.next ≡ found_from s z → elements_from s (next_or h.passed.next z) ≡ drop 1 (found_from s z)
      goes None y = y
      goes (Some b) y = refl

      go : (z : Option Element) → NextElement s h.passed.next z → (n ≤ next_or h.passed.next z) × (next_or h.passed.next z ≤ length s) × (stop_or (length s) z ≤ length s)
      go None y = (omega (arith, g.heads.from), g.heads.most, le_refl (length s))
      go (Some b) y = let e = y.some b refl in let z = first_forward e in let m = e.more in (omega (arith, g.heads.from), e.held.most, omega (arith, e.held.most))

      ahead : (n ≤ next_or h.passed.next o) × (next_or h.passed.next o ≤ length s) × (stop_or (length s) o ≤ length s)
      ahead = go o k
