-- The section, the list, and the whole text.
use mathlib.Core.Path.{◌≡◌, refl, ap, sym, ◌∙◌}
use mathlib.Core.Bool.{Bool, true, false, cond, not, ◌&&◌, ◌||◌, false≢true, or-false}
use mathlib.Core.List.{List, [], ◌∷◌, ◌++◌, map, append-nil}
use Prim.Native.Nat.{ℕ, ◌+◌, ◌≤◌, ◌<◌}
use native.Mathlib.Nat.{le_refl}
use native.Mathlib.Omega.{arith}
use lib.Dec.{eqb}
use lib.ListN.{length, get_or, set, take, drop, length-set}
use lib.Seq.{get_or-set_same, get_or-set_other}
use Rattle.std.specs.Bool.{then_some}
use Rattle.statements.specs.LowerLaws.{lower-right}
use Rattle.layout.specs.Cells.{tab}
use Rattle.lists.specs.Lists.{any, each, filled, if_any, keep}
use Rattle.statements.specs.Faults.{Fault}
use Rattle.statements.specs.Faults.{lower}
use Rattle.statements.specs.FaultLaws.{fault-both}
use Rattle.statements.specs.StatementAt.{fault_of}
use Rattle.macros.specs.Elements as spec
use Rattle.macros.specs.Elements.{is_end, is_open, is_close, places_in, until, from, elements, stretches}
use Rattle.macros.specs.Macros.{macro_of, macros_in, header_faults, definition_faults, ending_faults, place_faults, macro_list_faults, list_change, from_statement, first_statement, behind_first, from_list, section}
use Rattle.macros.specs.Pieces.{Change, section_changes, is_stray, form_faults}
use Rattle.macro_code.specs.Code as code
use Rattle.macro_code.specs.Code.{paired}
use Rattle.macro_changes.specs.Changing.{Kept, ReadChanges, parameters_of, shuts, stop_of, changes_of, wrong_in}
use Rattle.std.specs.Prelude.{None}
use Rattle.macro_changes.specs.Changing.{Scope}
use Rattle.macro_changes.specs.declared.Passed.{Passed}
use Rattle.macro_changes.specs.declared.Step.{Step}
use Rattle.macro_changes.proofs.Cells.{first_of, second-of, kept_set, kept_on, kept-below, changes-agree, changes-same, changes-more}
use Rattle.macro_changes.proofs.Giving.{keep-first, one-fault}
use Rattle.macro_changes.proofs.Searching.{until-on, from_on}
use Rattle.macro_elements.specs.ElementAt.{elements_from, argument_value, Lent, FirstElement}
use Rattle.macro_elements.specs.declared.Element.{Element}
use Rattle.macro_reading.specs.Definitions.{OpenAt, stretch, defined_in, last_in, after_in, Listable, DefinitionsRead}
use Rattle.macro_reading.specs.Sections.{outer_faults, Skips, FirstRead, Tailed, tail_faults, TailRead}
use Rattle.macro_reading.specs.Whole.{SectionCells, Sectioned, SectionRead, gone, follow_faults, Bracketed, list_from, list_at, list_stop, ListRead, LentRows, MacrosRead}
use Rattle.macro_reading.specs.declared.Definitions.{Definitions}
use Rattle.macro_reading.specs.declared.Listing.{Listing}
use Rattle.macro_reading.specs.declared.Tail.{Tail}
use Rattle.macro_reading.proofs.Enlisting.{listing-kept}
use Rattle.macro_reading.proofs.Reading.{all-changes, fault-there, record_cells, span-there, counts-there, record-kept, above-there}
use Rattle.macro_reading.proofs.Stretching.{defined-none, last-here, after-here}

-- nothing closes the section
all-inside : (ts : List spec.Element) → until (shuts false) ts ≡ ts
all-inside [] = refl
all-inside (t ∷ ts) = until-on (shuts false) t ts refl ∙ ap (λ (us : List spec.Element). t ∷ us) (all-inside ts)

none-behind : (ts : List spec.Element) → from (shuts false) ts ≡ []
none-behind [] = refl
none-behind (t ∷ ts) = from_on (shuts false) t ts refl ∙ none-behind ts

module _ {s m c : List ℕ} {q before u n : ℕ} (p : Sectioned s m c q before u n) where
  abbrev X : Scope
  X = None

  no-parameters : parameters_of s c X ≡ []
  unfolding tab
  no-parameters = refl

  stop-there : stop_of s false n ≡ length s
  stop-there = ap (λ (ts : List spec.Element). if_any (length s) (λ t. t.at) ts) (none-behind (elements_from s n))

  module _ {d : List ℕ} {r : Step} (g : ReadChanges s c d X n u r) where
    abbrev laid : ℕ
    laid = before + r.count

    pub section-room : q + 3 ≤ length d
    section-room = omega (arith, p.first, p.room, p.lent.most, g.steps.kept.size)

    pub section-count : laid < 65536
    section-count = omega (arith, p.few, g.steps.from, g.steps.most, p.lent.size)

    section-size : length s < 65536
    section-size = omega (arith, p.lent.size)

    abbrev own_cells : List ℕ
    own_cells = record_cells d q 0 (length s) 0 laid section-room

    span-are : get_or own_cells (q + 1) 0 ≡ paired 0 (length s)
    span-are = span-there d q 0 (length s) 0 laid section-room

    counts-are : (code.parameter_count own_cells q ≡ 0) × (code.change_count own_cells q ≡ laid)
    counts-are =
        let e = counts-there d q 0 (length s) 0 laid section-room in
        (rw e (first_of 0 laid section-count), rw e (second-of 0 laid section-count))

    first-there : code.first_change own_cells q ≡ q + 3
    first-there = rw counts-are.0 (omega arith)

    before_same : (code.changes_in s d (q + 3) before ≡ code.changes_in s c (q + 3) before) × (code.behind_changes d (q + 3) before ≡ code.behind_changes c (q + 3) before)
    before_same = changes-same g.steps.kept s before (q + 3) (omega (arith, p.there))

    laid-there : code.changes_in s d (q + 3) laid ≡ code.changes_in s c (q + 3) before ++ section_changes (length s) (elements_from s n)
    unfolding changes_of
    laid-there =
        changes-more s d before r.count (q + 3)
        ∙ (λ i. before_same.0 i ++ code.changes_in s d ((before_same.1 ∙ p.there) i) r.count)
        ∙ ap (λ (cs : List Change). code.changes_in s c (q + 3) before ++ cs)
        (all-changes g ∙ (λ i. section_changes (stop-there i) (all-inside (elements_from s n) i)))

    pub section-done : SectionRead s c own_cells q before n r.passed.fault
    unfolding wrong_in
    section-done =
        record {
          kept_is = kept_on (kept-below g.steps.kept (omega (arith, p.first))) (record-kept d q 0 (length s) 0 laid section-room) (omega arith);
          cells = record {
            starts = rw span-are (first_of 0 (length s) section-size);
            stops = rw span-are (second-of 0 (length s) section-size);
            changes_are =
                (λ i. code.changes_in s own_cells (first-there i) (counts-are.1 i))
                ∙ (changes-agree (above-there d q 0 (length s) 0 laid section-room (code.behind_changes d (q + 3) laid)) s laid (q + 3) (le_refl (q + 3)) (le_refl (code.behind_changes d (q + 3) laid))).0
                ∙ laid-there;
          };
          fault_is = fault-there g ∙ (λ i. fault_of (form_faults (is_stray (no-parameters i)) (no-parameters i) (all-inside (elements_from s n) i)));
        }

-- the list, as a change
pub record Puttable (c : List ℕ) (u at stop : ℕ) : Type 0 where
  pub room : u + 2 ≤ length c
  pub at_low : at < 65536
  pub stop_low : stop < 65536

pub record Puts (c d : List ℕ) (u at stop : ℕ) : Type 0 where
  pub kept : Kept c d u
  pub change_is : (s : List ℕ) → code.changes_in s d u 1 ≡ gone at stop ∷ []
  pub behind_is : code.behind_changes d u 1 ≡ u + 2

module _ {c : List ℕ} {u at stop : ℕ} (p : Puttable c u at stop) where
  abbrev list_cells : List ℕ
  list_cells = set (set c u (paired at stop)) (u + 1) (paired 2 0)

  list-there : get_or list_cells u 0 ≡ paired at stop
  list-there = get_or-set_other (set c u (paired at stop)) (u + 1) u (paired 2 0) 0 (λ z. omega arith) ∙ get_or-set_same c u (paired at stop) 0 (omega (arith, p.room))

  kind-there : get_or list_cells (u + 1) 0 ≡ paired 2 0
  kind-there = get_or-set_same (set c u (paired at stop)) (u + 1) (paired 2 0) 0 (simp length-set (omega (arith, p.room)))

  list_put : Puts c list_cells u at stop
  unfolding code.changes_in code.behind_changes code.change_in code.size_at
  list_put =
      record {
        kept = kept_on (kept_set c u (paired at stop) u (le_refl u)) (kept_set (set c u (paired at stop)) (u + 1) (paired 2 0) u (omega arith)) (le_refl u);
        change_is = λ s. rw (kind-there, list-there, first_of at stop p.stop_low, second-of at stop p.stop_low) refl;
        behind_is = rw kind-there refl;
      }

  pub list-by : {d : List ℕ} → d ≡ list_cells → Puts c d u at stop
  list-by e = rw e list_put

-- what follows the list
pub follow-is : {s : List ℕ} {n : ℕ} {t : Element} → FirstElement s n t → {b : Bool} → b ≡ not (is_end (argument_value s t)) → then_some b t.at ≡ fault_of (follow_faults (elements_from s n))
follow-is {s} {n} {t} k {b} e =
    one-fault b t.at
    ∙ ap (λ (z : Bool). fault_of (cond z (t.at ∷ []) [])) e
    ∙ sym (ap (λ (ts : List spec.Element). fault_of (follow_faults ts)) k.is ∙ ap fault_of (keep-first (λ u. not (is_end u)) (argument_value s t) [] ∙ append-nil (cond (not (is_end (argument_value s t))) (t.at ∷ []) [])))

module _ {s m c firsts : List ℕ} {t : Element} (p : Bracketed s m c firsts t) where
  abbrev us : List spec.Element
  us = elements_from s t.next

  pub listable : Listable s m c firsts t.next
  listable =
      record {
        lent = record { copy = p.copy; size = p.held.small; most = p.held.most };
        behind_bracket = omega (arith, p.more);
        room = p.room;
        wide = p.wide;
        macros_room = p.macros_room;
      }

  module _ {d f : List ℕ} {r : Definitions} (a : DefinitionsRead s c firsts d f t.next r) where
    pub tailed : Tailed s m d r.passed.next r.used
    tailed =
        record {
          headable =
              record {
                lent = record { copy = p.copy; size = p.held.small; most = a.lists.most };
                room = omega (arith, a.lists.paid, a.lists.most, p.room, p.held.small, a.lists.size);
                wide = omega (arith, p.wide, a.lists.size);
              };
          bodiless_is = a.done;
        }

    none_more : defined_in (elements_from s r.passed.next) ≡ []
    none_more = defined-none (elements_from s r.passed.next) a.done

    the_last : last_in us ≡ stretch (elements_from s r.passed.next)
    the_last = sym a.lists.last_is ∙ last-here (elements_from s r.passed.next) a.done

    module _ {e : List ℕ} {w : Tail} (b : TailRead s d e r.passed.next r.used t.at r.defined w) where
      pub puttable : Puttable e (r.used + 3) t.at w.stop
      puttable =
          let h = p.held in
          record {
            room = omega (arith, a.lists.paid, a.lists.most, p.room, p.held.small, a.lists.size, b.kept.size);
            at_low = omega (arith, h.own, h.ends, h.small);
            stop_low = omega (arith, b.stop_most, p.held.small);
          }

      pub follows : Lent s m w.passed.next
      follows = record { copy = p.copy; size = p.held.small; most = b.most }

      the_rest : after_in us ≡ elements_from s w.passed.next
      the_rest = sym a.lists.after_is ∙ after-here (elements_from s r.passed.next) a.done ∙ sym b.rest

      module _ {e' : List ℕ} (x : Puts e e' (r.used + 3) t.at w.stop) where
        pub sectioned : Sectioned s m e' r.used 1 (r.used + 3 + 2) w.passed.next
        sectioned =
            record {
              lent = follows;
              few = omega arith;
              first = omega arith;
              there = x.behind_is;
              room = omega (arith, a.lists.paid, b.from_here, p.room, p.held.small, a.lists.size, b.kept.size, x.kept.size);
              wide = omega (arith, p.wide, a.lists.size, b.kept.size, x.kept.size);
            }

        module _ {g : List ℕ} {h : Fault} (y : SectionRead s e' g r.used 1 w.passed.next h) where
          section-there : SectionCells s g r.used (gone (list_at (list_from s t)) (list_stop s (list_from s t)) ∷ section_changes (length s) (after_in (drop 1 (list_from s t))))
          section-there =
              record {
                starts = y.cells.starts;
                stops = y.cells.stops;
                changes_are =
                    y.cells.changes_are
                    ∙ (λ i. x.change_is s i ++ section_changes (length s) (sym the_rest i))
                    ∙ ap (λ (j : ℕ). gone t.at j ∷ section_changes (length s) (after_in us)) (b.stop_is ∙ ap (λ (z : List spec.Element). if_any (length s) (λ u. u.at + 1) (from is_close z)) (sym the_last));
              }

          pub list_done : {first follow : Fault} → follow ≡ fault_of (follow_faults (elements_from s w.passed.next))
              → ListRead s g f t first (record { count = r.count; section = r.used; fault = lower (lower (lower (lower first follow) r.passed.fault) w.passed.fault) h })
          list_done {first} {follow} z =
              record {
                few = omega (arith, a.lists.counted, a.lists.most, p.held.small);
                low = omega (arith, a.lists.paid, a.lists.most, p.held.small);
                macros_are =
                    sym (append-nil (code.macros_in s g f r.count))
                    ∙ ap (λ (xs : List (List spec.Element)). code.macros_in s g f r.count ++ each (macro_of s) xs) (sym none_more)
                    ∙ (listing-kept listable a.lists (kept_on (kept_on b.kept x.kept (omega arith)) y.kept_is (le_refl r.used))).macros_are;
                cells = section-there;
                fault_is =
                    (λ i. lower (lower (lower (lower first ((z ∙ ap (λ (ts : List spec.Element). fault_of (follow_faults ts)) (sym the_rest)) i)) (defined-fault i)) (tail-there i)) ((y.fault_is ∙ ap (λ (ts : List spec.Element). fault_of (form_faults (is_stray []) [] ts)) (sym the_rest)) i));
              }
            where
              defined-fault : r.passed.fault ≡ fault_of (each definition_faults (defined_in us))
              defined-fault =
                  sym (lower-right r.passed.fault)
                  ∙ ap (λ (xs : List (List spec.Element)). lower r.passed.fault (fault_of (each definition_faults xs))) (sym none_more)
                  ∙ a.lists.faults

              defined-there : r.defined ≡ filled (defined_in us)
              defined-there = sym (or-false r.defined) ∙ ap (λ (xs : List (List spec.Element)). r.defined || filled xs) (sym none_more) ∙ a.lists.defined_is

              tail-there : w.passed.fault ≡ fault_of (tail_faults t.at (filled (defined_in us)) (last_in us))
              tail-there = b.fault_is ∙ (λ i. fault_of (tail_faults t.at (defined-there i) (sym the_last i)))

-- The whole text, by what stands from its list on
abbrev rest_by : List ℕ → List spec.Element → List spec.Element
rest_by s l = cond (filled (take 1 l)) (after_in (drop 1 l)) (elements s)

abbrev changes_by : List ℕ → List spec.Element → List Change
changes_by s l = map (λ t. gone t.at (list_stop s l)) (take 1 l) ++ section_changes (length s) (rest_by s l)

abbrev ending_by : List spec.Element → List ℕ
ending_by l =
    header_faults (until is_close (last_in (drop 1 l))) ++ places_in (take 1 (keep spec.is_word (last_in (drop 1 l))))
    ++ cond (any is_close (last_in (drop 1 l)) && (filled (defined_in (drop 1 l)) || any (λ t. not (is_close t || eqb t.byte 10)) (last_in (drop 1 l)))) [] (places_in (take 1 l))

abbrev faults_by : List ℕ → List spec.Element → List ℕ
faults_by s l =
    cond (filled (take 1 l))
    (outer_faults (first_statement (elements s)) ++ follow_faults (rest_by s l) ++ each definition_faults (defined_in (drop 1 l)) ++ ending_by l) []

changes-whole : (s : List ℕ) → list_change (length s) (elements s) ++ section_changes (length s) (section (elements s)) ≡ changes_by s (from_list (elements s))
unfolding list_change
changes-whole s = refl

faults-are : (s : List ℕ) → macro_list_faults (elements s) ++ form_faults (is_stray []) [] (section (elements s))
    ≡ faults_by s (from_list (elements s)) ++ form_faults (is_stray []) [] (rest_by s (from_list (elements s)))
unfolding macro_list_faults place_faults ending_faults
faults-are s = refl

changes-with : (s : List ℕ) (l : List spec.Element) → if_any false is_open l ≡ true
    → changes_by s l ≡ gone (list_at l) (list_stop s l) ∷ section_changes (length s) (after_in (drop 1 l))
changes-with s [] h = absurd (false≢true h)
changes-with s (t ∷ ts) h = refl

faults-with : (s : List ℕ) (l : List spec.Element) → if_any false is_open l ≡ true
    → fault_of (faults_by s l ++ form_faults (is_stray []) [] (rest_by s l))
    ≡ lower (lower (lower (lower (fault_of (outer_faults (first_statement (elements s)))) (fault_of (follow_faults (after_in (drop 1 l))))) (fault_of (each definition_faults (defined_in (drop 1 l)))))
    (fault_of (tail_faults (list_at l) (filled (defined_in (drop 1 l))) (last_in (drop 1 l))))) (fault_of (form_faults (is_stray []) [] (after_in (drop 1 l))))
faults-with s [] h = absurd (false≢true h)
faults-with s (t ∷ us) h =
    let o = outer_faults (first_statement (elements s)) in
    let fo = follow_faults (after_in us) in
    let d = each definition_faults (defined_in us) in
    let e = tail_faults t.at (filled (defined_in us)) (last_in us) in
    let x = form_faults (is_stray []) [] (after_in us) in
    fault-both (((o ++ fo) ++ d) ++ e) x
    ∙ ap (λ (y : Fault). lower y (fault_of x))
    (fault-both ((o ++ fo) ++ d) e ∙ ap (λ (y : Fault). lower y (fault_of e)) (fault-both (o ++ fo) d ∙ ap (λ (y : Fault). lower y (fault_of d)) (fault-both o fo)))

module _ {s m c firsts : List ℕ} (p : LentRows s m c firsts) {a : ℕ} (sa : Skips s 0 a) {f : Passed} (rf : FirstRead s a f) {b : ℕ} (sb : Skips s f.next b) where
  pub start-lent : Lent s m 0
  start-lent = record { copy = p.copy; size = p.size; most = omega arith }

  whole_is : elements s ≡ elements_from s 0
  unfolding elements_from
  whole_is = refl

  behind_is : elements_from s b ≡ behind_first (elements s)
  behind_is = sb.is ∙ ap from_statement (rf.is ∙ ap (from is_end) sa.is) ∙ ap behind_first (sym whole_is)

  first_is : f.fault ≡ fault_of (outer_faults (first_statement (elements s)))
  first_is = rf.fault_is ∙ ap (λ (ts : List spec.Element). fault_of (outer_faults (until is_end ts))) sa.is ∙ ap (λ (ts : List spec.Element). fault_of (outer_faults (first_statement ts))) (sym whole_is)

  no-list : if_any false is_open (elements_from s b) ≡ false → from_list (elements s) ≡ []
  no-list e = ap (λ (z : Bool). cond z (behind_first (elements s)) []) (ap (λ (ts : List spec.Element). if_any false is_open ts) (sym behind_is) ∙ e)

  pub bracketed : {t : Element} → OpenAt s b t → Bracketed s m c firsts t
  bracketed k = record { copy = p.copy; held = k.first.held; more = k.first.more; room = p.room; wide = p.wide; macros_room = p.macros_room }

  pub no-list-section : Sectioned s m c 0 0 3 0
  unfolding code.behind_changes
  no-list-section =
      record { lent = start-lent; few = omega arith; first = omega arith; there = refl; room = omega (arith, p.room, p.size); wide = p.wide }

  pub with_list : {t : Element} → OpenAt s b t → {d g : List ℕ} {r : Listing} → ListRead s d g t f.fault r → MacrosRead s d g r
  unfolding macros_in
  with_list {t} k {d} {g} {r} y =
      let h = k.opens in
      let there = k.first.is in
      let l : from_list (elements s) ≡ (list_from s t) = ap (λ (z : Bool). cond z (behind_first (elements s)) []) (ap (λ (ts : List spec.Element). if_any false is_open ts) (sym behind_is ∙ there) ∙ h) ∙ sym behind_is ∙ there in
      record {
        few = y.few;
        macros_are = y.macros_are ∙ ap (λ (ts : List spec.Element). each (macro_of s) (defined_in (drop 1 ts))) (sym l);
        low = y.low;
        cells = record {
          starts = y.cells.starts;
          stops = y.cells.stops;
          changes_are = y.cells.changes_are ∙ sym (changes-with s (list_from s t) h) ∙ ap (changes_by s) (sym l) ∙ sym (changes-whole s);
        };
        fault_is =
            y.fault_is
            ∙ (λ i. lower (lower (lower (lower (first_is i) (fault_of (follow_faults (after_in (drop 1 (list_from s t)))))) (fault_of (each definition_faults (defined_in (drop 1 (list_from s t)))))) (fault_of (tail_faults (list_at (list_from s t)) (filled (defined_in (drop 1 (list_from s t)))) (last_in (drop 1 (list_from s t)))))) (fault_of (form_faults (is_stray []) [] (after_in (drop 1 (list_from s t))))))
            ∙ sym (faults-with s (list_from s t) h)
            ∙ ap (λ (ts : List spec.Element). fault_of (faults_by s ts ++ form_faults (is_stray []) [] (rest_by s ts))) (sym l)
            ∙ sym (ap fault_of (faults-are s));
      }

  pub without-list : if_any false is_open (elements_from s b) ≡ false → {d g : List ℕ} {x : Fault} → SectionRead s c d 0 0 0 x
      → MacrosRead s d g (record { count = 0; section = 0; fault = x })
  unfolding macros_in code.macros_in code.changes_in tab stretches
  without-list e {d} {g} {x} y =
      let l = no-list e in
      record {
        few = omega arith;
        macros_are = sym (ap (λ (ts : List spec.Element). each (macro_of s) (defined_in (drop 1 ts))) l);
        low = omega arith;
        cells = record {
          starts = y.cells.starts;
          stops = y.cells.stops;
          changes_are =
              y.cells.changes_are
              ∙ ap (λ (ts : List spec.Element). section_changes (length s) ts) (sym whole_is)
              ∙ ap (changes_by s) (sym l)
              ∙ sym (changes-whole s);
        };
        fault_is =
            y.fault_is
            ∙ ap (λ (ts : List spec.Element). fault_of (form_faults (is_stray []) [] ts)) (sym whole_is)
            ∙ ap (λ (ts : List spec.Element). fault_of (faults_by s ts ++ form_faults (is_stray []) [] (rest_by s ts))) (sym l)
            ∙ sym (ap fault_of (faults-are s));
      }
