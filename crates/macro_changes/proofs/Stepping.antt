-- Changes and faults of elements, one after the other, in cells.
use mathlib.Core.Path.{◌≡◌, refl, ap, sym, ◌∙◌, subst}
use mathlib.Core.Bool.{Bool, true, false, cond, not, ◌&&◌, ◌||◌, true≢false, false≢true, or-false}
use mathlib.Core.List.{List, [], ◌∷◌, ◌++◌, map, append_assoc, append-nil}
use Prim.Native.Nat.{ℕ, zero, suc, ◌+◌, ◌*◌, ◌≤◌, ◌<◌}
use native.Mathlib.Nat.{le_refl}
use native.Mathlib.Omega.{arith}
use lib.ListN.{length, take, drop, length-take, length-drop}
use Rattle.statements.specs.LowerLaws.{lower-right}
use Rattle.layout.specs.Cells.{tab}
use Rattle.lexer.specs.Tokens.{part}
use Rattle.lists.specs.Lists.{filled, head_or, if_any}
use Rattle.statements.specs.Faults.{Fault}
use Rattle.std.specs.Prelude.{None, Some}
use Rattle.statements.specs.Faults.{lower}
use Rattle.statements.specs.FaultLaws.{fault-both, no-fault}
use Rattle.statements.specs.StatementAt.{fault_of}
use Rattle.syntax.specs.Items.Sort.{end}
use Rattle.macros.specs.Elements as spec
use Rattle.macros.specs.Elements.{is_word, is_end, is_star, is_mark, end_of, places_in, until, from}
use Rattle.macros.specs.Pieces.{Given, Change, given_of, is_parameter, number_of, name_faults, call_of, joins_well, call_faults, word_changes, call_stop, call_changes, section_changes, form_faults}
use Rattle.macros.specs.Pieces.Given.{typed, parameter, joined}
use Rattle.macros.specs.Pieces.Piece.{value, called}
use Rattle.macros.proofs.StepLaws.{at_plain, at-star, call-first, changes-plain, changes-star, form-plain, form-star}
use Rattle.macros.proofs.SortLaws.{star-no-end}
use Rattle.macro_code.specs.Code.{high, given_in, paired, changes_in, change_in, size_at, behind_changes}
use Rattle.std.specs.Prelude.{Option, Some, None, IfSome, unwrap_or}
use Rattle.macro_code.specs.Kinds.{parameter_of}
use Rattle.macro_code.specs.declared.Given as held
use Rattle.macro_code.specs.declared.Given.TheVariants.{Typed, Parameter, Joined}
use Rattle.macro_elements.specs.ElementAt.{joined_at, argument_value}
use Rattle.macro_elements.specs.declared.Element.{Element}
use Rattle.std.specs.Bool.{then_some}
use Rattle.std.proofs.lemmas.Option.{none-some, same_Some}
use Rattle.macro_changes.specs.Changing.{Kept, parameters_of, inside, stop_of, changes_of, wrong_in, wrong_by, given_as, value_in, replaced, Judged, Reading, InsideAt, Started, ChangedBy, NextChange, given_from, ends_from, argument_faults, GivenUp, form_in, Stepped, Changed, Named, EndsCall, kind_of, used_by, Written}
use Rattle.macro_changes.specs.declared.Answer.{Answer}
use Rattle.macro_changes.specs.declared.Ending.{Ending}
use Rattle.std.specs.Prelude.{is_some}
use Rattle.macro_changes.specs.Changing.{Scope}
use Rattle.macro_changes.specs.declared.Step.{Step}
use Rattle.macro_changes.proofs.Cells.{kept-none, kept_on, kept-below, parameters-same, changes-same, changes-more, behind_more}
use Rattle.macro_changes.proofs.Searching.{from_on, from-off}
use Rattle.macro_changes.proofs.Giving.{lower-assoc, keep-first, one-fault, first_forward, stretch-on, rest-on}
use Rattle.macro_changes.proofs.Calling.{call_faults-are}
use Rattle.macro_changes.proofs.Called.{cells, cells-kept, value_is, value-size, call-change}

-- None yet, and some after others

module _ {s m c : List ℕ} {x : Scope} {n u : ℕ} (q : Reading s m c x n u) where
  pub stepped-none : Stepped s c c x n u n u 0 None
  unfolding changes_in behind_changes
  stepped-none =
      record {
        from = omega arith;
        most = q.lent.most;
        kept = kept-none c u;
        low = le_refl u;
        room = le_refl (u + 2 * n);
        faults = refl;
        changes_are = refl;
        used_is = refl;
        rest = refl;
      }

  pub reading-on : {d : List ℕ} {i w k : ℕ} {f : Fault} → Stepped s c d x n u i w k f → Reading s m d x i w
  reading-on h =
      record {
        lent = record { copy = q.lent.copy; size = q.lent.size; most = h.most };
        few = q.few;
        scoped = omega (arith, q.scoped, h.low);
        room = omega (arith, q.room, h.room, h.kept.size);
        wide = omega (arith, q.wide, h.kept.size);
      }

  module _ {d e : List ℕ} {i w k j v l : ℕ} {f g : Fault} (a : Stepped s c d x n u i w k f) (b : Stepped s d e x i w j v l g) where
    same-ps : parameters_of s d x ≡ parameters_of s c x
    same-ps = parameters-same a.kept s x q.scoped

    same_stop : stop_of s (is_some x) i ≡ stop_of s (is_some x) n
    same_stop = ap (λ (ts : List spec.Element). if_any (length s) (λ t. t.at) ts) a.rest

    kept-changes : (changes_in s e u k ≡ changes_in s d u k) × (behind_changes e u k ≡ behind_changes d u k)
    kept-changes = changes-same b.kept s k u (omega (arith, a.used_is))

    behind_is : behind_changes e u k ≡ w
    behind_is = kept-changes.1 ∙ a.used_is

    pub stepped-on : Stepped s c e x n u j v (k + l) (lower f g)
    stepped-on =
        let ps = parameters_of s c x in
        let closing = (is_some x) in
        let stop = stop_of s closing n in
        record {
          from = omega (arith, a.from, b.from);
          most = b.most;
          kept = kept_on a.kept b.kept a.low;
          low = omega (arith, a.low, b.low);
          room = omega (arith, a.room, b.room);
          faults =
              lower-assoc f g (fault_of (form_in s ps closing j))
              ∙ ap (lower f) (ap (λ (ps : List (List ℕ)). lower g (fault_of (form_in s ps closing j))) (sym same-ps) ∙ b.faults ∙ ap (λ (ps : List (List ℕ)). fault_of (form_in s ps closing i)) same-ps)
              ∙ a.faults;
          changes_are =
              ap (λ (cs : List Change). cs ++ changes_of closing ps stop (inside s closing j)) (changes-more s e k l u ∙ (λ z. kept-changes.0 z ++ changes_in s e (behind_is z) l))
              ∙ append_assoc (changes_in s d u k) (changes_in s e w l) (changes_of closing ps stop (inside s closing j))
              ∙ ap (λ (cs : List Change). changes_in s d u k ++ cs)
              ((λ z. changes_in s e w l ++ changes_of closing (sym same-ps z) (sym same_stop z) (inside s closing j)) ∙ b.changes_are ∙ (λ z. changes_of closing (same-ps z) (same_stop z) (inside s closing i)))
              ∙ a.changes_are;
          used_is = behind_more e k l u ∙ ap (λ (y : ℕ). behind_changes e y l) behind_is ∙ b.used_is;
          rest = b.rest ∙ a.rest;
        }

-- The section: a call's stretch tells as much of it as all that follows
section-stretch : ℕ → List spec.Element → List Change
section-stretch stop x = call_changes [] stop (from is_star x)

section-none : (stop : ℕ) → section-stretch stop [] ≡ []
unfolding section-stretch call_changes
section-none stop = refl

section-step : (stop : ℕ) (t : spec.Element) (x : List spec.Element) → is_star t ≡ false → section-stretch stop (t ∷ x) ≡ [] ++ section-stretch stop x
unfolding section-stretch
section-step stop t x e = ap (call_changes [] stop) (from_on is_star t x e)

section-plain : (stop : ℕ) (t : spec.Element) (ts : List spec.Element) → is_star t ≡ false → section_changes stop (t ∷ ts) ≡ section_changes stop ts
unfolding section-stretch
section-plain stop t ts e = at_plain (section-stretch stop) (λ y. []) (section-none stop) (section-step stop) t ts e

section-star : (stop : ℕ) (t : spec.Element) (ts : List spec.Element) → is_star t ≡ true → is_end t ≡ false
    → section_changes stop (t ∷ ts) ≡ call_changes [] stop (t ∷ ts) ++ section_changes stop (drop 1 (from is_end ts))
unfolding section-stretch
section-star stop t ts s e =
    at-star (section-stretch stop) (λ y. []) (section-none stop) (section-step stop) t ts e
    ∙ ap (λ (cs : List Change). cs ++ section_changes stop (drop 1 (from is_end ts)))
    (ap (call_changes [] stop) (from-off is_star t (until is_end ts ++ take 1 (from is_end ts)) s) ∙ call-first [] stop t ts)

-- In a body and in the section alike
unfoldable words_of : Bool → List (List ℕ) → spec.Element → List Change
words_of true ps t = word_changes ps t
words_of false ps t = []

of_plain : (closing : Bool) (ps : List (List ℕ)) (stop : ℕ) (t : spec.Element) (ts : List spec.Element) → is_star t ≡ false
    → changes_of closing ps stop (t ∷ ts) ≡ words_of closing ps t ++ changes_of closing ps stop ts
unfolding changes_of words_of
of_plain true ps stop t ts e = changes-plain ps stop t ts e
of_plain false ps stop t ts e = section-plain stop t ts e

of-star : (closing : Bool) (ps : List (List ℕ)) (stop : ℕ) (t : spec.Element) (ts : List spec.Element) → (closing ≡ false → ps ≡ []) → is_star t ≡ true → is_end t ≡ false
    → changes_of closing ps stop (t ∷ ts) ≡ call_changes ps stop (t ∷ ts) ++ changes_of closing ps stop (drop 1 (from is_end ts))
unfolding changes_of
of-star true ps stop t ts h s e = changes-star ps stop t ts s e
of-star false ps stop t ts h s e = rw (h refl) (section-star stop t ts s e)

wrong-is : (closing : Bool) (ps : List (List ℕ)) (j : Bool) (t : spec.Element) → j ≡ joins_well ps t → wrong_by closing j t ≡ wrong_in closing ps t
unfolding wrong_by wrong_in
wrong-is true ps j t e = rw e refl
wrong-is false ps j t e = or-false (is_mark 40 t || is_mark 41 t || is_mark 39 t || not j) ∙ rw e refl

-- no parameters in the section
no-parameters : (s c : List ℕ) (x : Scope) → is_some x ≡ false → parameters_of s c x ≡ []
unfolding tab
no-parameters s c None e = refl
no-parameters s c (Some p) e = absurd (true≢false e)

unnamed : (ps : List (List ℕ)) (t : spec.Element) → call_faults ps t [] ≡ [] → ⊥
unfolding call_faults name_faults
unnamed ps t e = true≢false (ap filled e)

no-tab : (f : ℕ → Given) (h : spec.Element → Given) (y : spec.Element) (ts : List spec.Element) → tab zero f ≡ map h (y ∷ ts) → ⊥
unfolding tab
no-tab f h y ts e = false≢true (ap filled e)

module _ {s c d : List ℕ} {x : Scope} {u : ℕ} {t : Element} (q : Started s c x t u) (star : is_star (argument_value s t) ≡ true)
    {r : Step} (g : GivenUp s c d x t.next (u + 2) r) {name : Fault} (nm : Named s (is_some x) t.at t.next name) where
  abbrev ps : List (List ℕ)
  ps = parameters_of s c x

  abbrev v : spec.Element
  v = argument_value s t

  abbrev given : List spec.Element
  given = given_from s (is_some x) t.next

  all-given : tab r.count (λ j. given_in s d (u + 2 + 2 * j)) ≡ map (given_of ps) given
  all-given = sym (append-nil (tab r.count (λ j. given_in s d (u + 2 + 2 * j)))) ∙ (rw g.done at g.gives.gives)

  all_places : tab r.count (λ j. high d (u + 2 + 2 * j)) ≡ places_in given
  all_places = sym (append-nil (tab r.count (λ j. high d (u + 2 + 2 * j)))) ∙ (rw g.done at g.gives.places)

  given-fault : r.passed.fault ≡ fault_of (argument_faults ps given)
  given-fault = sym (lower-right r.passed.fault) ∙ (rw g.done at g.gives.faults)

  pub call-fault : lower name r.passed.fault ≡ fault_of (call_faults ps v given)
  call-fault = (λ i. lower (nm.is v refl i) (given-fault i)) ∙ sym (call_faults-are ps v given)

  pub some-given : lower name r.passed.fault ≡ None → 0 < r.count
  some-given e = go given refl r.count all-given
    where
      none : call_faults ps v given ≡ []
      none = no-fault (call_faults ps v given) (sym call-fault ∙ e)

      go : (ts : List spec.Element) → given ≡ ts → (j : ℕ) → tab j (λ i. given_in s d (u + 2 + 2 * i)) ≡ map (given_of ps) given → 0 < j
      go [] h j z = absurd (unnamed ps v (ap (call_faults ps v) (sym h) ∙ none))
      go (y ∷ ts) h zero z = absurd (no-tab (λ i. given_in s d (u + 2 + 2 * i)) (given_of ps) y ts (z ∙ ap (map (given_of ps)) h))
      go (y ∷ ts) h (suc j) z = omega arith

  module _ {b : Ending} (en : EndsCall s (is_some x) r.passed.next b) {e : List ℕ} {used : ℕ} (w : Written d e u t.at b.stop r.count (lower name r.passed.fault) used) where
    room : u + 2 ≤ length d
    room = omega (arith, q.held.most, q.room, g.gives.kept.size)

    stop_low : b.stop < 65536
    stop_low = omega (arith, en.stop_most, q.held.small)

    count_low : r.count < 65536
    count_low = omega (arith, g.gives.from, g.gives.most, q.held.small)

    both : (change_in s (cells s d u t.at b.stop (kind_of r.count (lower name r.passed.fault)) room) u ≡ record { start = t.at; stop = b.stop; pieces = cond (filled (call_faults ps v given)) [] (called (call_of ps v given) ∷ []) }) × (u + size_at (cells s d u t.at b.stop (kind_of r.count (lower name r.passed.fault)) room) u ≡ used_by u r.count (lower name r.passed.fault))
    both = call-change s d u t.at b.stop r.count room stop_low count_low ps v refl given all-given all_places (lower name r.passed.fault) call-fault some-given

    none-there : (is_some x) ≡ false → ps ≡ []
    none-there h = no-parameters s c x h

    used-there : behind_changes e u 1 ≡ used
    unfolding behind_changes
    used-there = rw w.is both.1 ∙ sym w.used

    module _ {n : ℕ} (k : InsideAt s (is_some x) n t) where
      forward : n < t.next
      forward = first_forward k.first

      call_stop-same : stop_of s (is_some x) r.passed.next ≡ stop_of s (is_some x) n
      call_stop-same = ap (λ (ts : List spec.Element). if_any (length s) (λ y. y.at) ts) (g.gives.rest ∙ sym (rest-on k))

      the-stop : b.stop ≡ call_stop (stop_of s (is_some x) n) (ends_from s (is_some x) t.next)
      the-stop = en.stop_is ∙ (λ i. call_stop (call_stop-same i) (g.gives.ends i))

      inner : inside s (is_some x) n ≡ v ∷ inside s (is_some x) t.next
      inner = stretch-on k

      after : inside s (is_some x) b.next ≡ drop 1 (ends_from s (is_some x) t.next)
      after = en.on ∙ ap (drop 1) g.gives.ends

      one-change : changes_in s e u 1 ≡ call_changes ps (stop_of s (is_some x) n) (v ∷ inside s (is_some x) t.next)
      unfolding changes_in call_changes
      one-change = rw w.is (ap (λ (y : Change). y ∷ []) both.0) ∙ ap (λ (y : ℕ). record { start = t.at; stop = y; pieces = cond (filled (call_faults ps v given)) [] (called (call_of ps v given) ∷ []) } ∷ []) the-stop

      used-most : (f : Fault) → (u ≤ used_by u r.count f) × (used_by u r.count f + 2 * n ≤ u + 2 * b.next)
      used-most None = (omega arith, omega (arith, forward, g.gives.from, en.from))
      used-most (Some p) = (omega arith, omega (arith, forward, g.gives.from, en.from))

      pub call-from : Changed s c e x n u (record { passed = record { next = b.next; fault = lower name r.passed.fault }; used = used; count = 1 })
      call-from =
          let z = used-most (lower name r.passed.fault) in
          let closing = (is_some x) in
          let stop = stop_of s closing n in
          record {
            steps =
                record {
                  from = omega (arith, forward, g.gives.from, en.from);
                  most = en.most;
                  kept = rw w.is (kept_on (kept-below g.gives.kept (omega arith)) (cells-kept s d u t.at b.stop (kind_of r.count (lower name r.passed.fault)) room) (le_refl u));
                  low = rw w.used z.0;
                  room = rw w.used z.1;
                  faults =
                      (λ i. lower (call-fault i) (fault_of (form_faults (wrong_in closing ps) ps (after i))))
                      ∙ sym (fault-both (call_faults ps v given) (form_faults (wrong_in closing ps) ps (drop 1 (ends_from s closing t.next))))
                      ∙ ap fault_of (sym (form-star (wrong_in closing ps) ps v (inside s closing t.next) star (star-no-end v star)))
                      ∙ ap (λ (ts : List spec.Element). fault_of (form_faults (wrong_in closing ps) ps ts)) (sym inner);
                  changes_are =
                      (λ i. one-change i ++ changes_of closing ps stop (after i))
                      ∙ sym (of-star closing ps stop v (inside s closing t.next) none-there star (star-no-end v star))
                      ∙ ap (changes_of closing ps stop) (sym inner);
                  used_is = used-there;
                  rest = en.rest ∙ g.gives.rest ∙ sym (rest-on k);
                };
            more = omega (arith, forward, g.gives.from, en.from);
          }

    pub call-stepped : ChangedBy s c e x t u (record { passed = record { next = b.next; fault = lower name r.passed.fault }; used = used; count = 1 })
    call-stepped = record { is = λ n k. call-from k }

-- A word outside calls
abbrev change_by : spec.Element → Given → List Change
change_by t (typed w) = []
change_by t (parameter j) = record { start = t.at; stop = end_of t; pieces = value j ∷ [] } ∷ []
change_by t (joined w j) = record { start = end_of t; stop = end_of t + 1 + length (head_or [] t.joined); pieces = value j ∷ [] } ∷ []

word_by : (ps : List (List ℕ)) (t : spec.Element) → word_changes ps t ≡ change_by t (given_of ps t)
unfolding word_changes given_of
word_by ps t = go t.joined (is_word t && is_parameter ps t.typed)
  where
    go : (ws : List (List ℕ)) (b : Bool)
        → if_any (cond b (record { start = t.at; stop = end_of t; pieces = value (number_of ps t.typed) ∷ [] } ∷ []) []) (λ w. record { start = end_of t; stop = end_of t + 1 + length w; pieces = value (number_of ps w) ∷ [] } ∷ []) ws
        ≡ change_by (record { at = t.at; sort = t.sort; byte = t.byte; typed = t.typed; joined = ws }) (if_any (cond b (parameter (number_of ps t.typed)) (typed t.typed)) (λ w. joined t.typed (number_of ps w)) ws)
    go [] true = refl
    go [] false = refl
    go (w ∷ ws) b = refl

typed-nothing : (v : spec.Element) (w : List ℕ) (g : held.Given) → parameter_of g ≡ None → change_by v (given_as g w) ≡ []
unfolding given_as
typed-nothing v w Typed e = refl
typed-nothing v w (Parameter k) e = absurd (none-some k (sym e))
typed-nothing v w (Joined k) e = absurd (none-some k (sym e))

pub change-some : {s c d : List ℕ} {x : Scope} {n u : ℕ} {t : Element} {r : Step} → InsideAt s (is_some x) n t → ChangedBy s c d x t u r → NextChange s c d x n u (Some r)
change-some {s} {c} {d} {x} {n} {u} {t} {r} k h =
    record { none = λ y. absurd (none-some r (sym y)); some = λ z y. subst (λ (v : Step). Changed s c d x n u v) (same_Some r z y) (h.is n k) }

pub started : {s m c : List ℕ} {x : Scope} {n u : ℕ} {t : Element} → Reading s m c x n u → InsideAt s (is_some x) n t → Started s c x t u
started q k =
    let z = first_forward k.first in
    record { held = k.first.held; few = q.few; scoped = q.scoped; room = omega (arith, q.room); wide = q.wide }

module _ {s c : List ℕ} {x : Scope} {u : ℕ} {t : Element} (q : Started s c x t u) (no-star : is_star (argument_value s t) ≡ false) {a : Answer} (judged : Judged s c x t a) where
  abbrev ps' : List (List ℕ)
  ps' = parameters_of s c x

  abbrev v' : spec.Element
  v' = argument_value s t

  module _ {n : ℕ} (k : InsideAt s (is_some x) n t) where
    word-forward : n < t.next
    word-forward = first_forward k.first

    word-inner : inside s (is_some x) n ≡ v' ∷ inside s (is_some x) t.next
    word-inner = stretch-on k

    word-faults : (b : Bool) → b ≡ wrong_by (is_some x) a.joins v' → {f : Fault} → f ≡ then_some b t.at
        → lower f (fault_of (form_in s ps' (is_some x) t.next)) ≡ fault_of (form_in s ps' (is_some x) n)
    word-faults b e {f} g =
        let closing = (is_some x) in
        let w = wrong_in closing ps' in
        let rest = form_in s ps' closing t.next in
        ap (λ (z : Fault). lower z (fault_of rest)) (g ∙ one-fault b t.at ∙ ap (λ (z : Bool). fault_of (cond z (t.at ∷ []) [])) (e ∙ wrong-is closing ps' a.joins v' judged.joins_is))
        ∙ sym (fault-both (cond (w v') (t.at ∷ []) []) rest)
        ∙ ap (λ (ns : List ℕ). fault_of (ns ++ rest)) (sym (keep-first w v' [] ∙ append-nil (cond (w v') (t.at ∷ []) [])))
        ∙ ap fault_of (sym (form-plain w ps' v' (inside s closing t.next) no-star))
        ∙ ap (λ (ts : List spec.Element). fault_of (form_faults w ps' ts)) (sym word-inner)

    word-stepped : (d : List ℕ) (count used : ℕ) {f : Fault} → Kept c d u → n + count ≤ t.next → u ≤ used → used + 2 * n ≤ u + 2 * t.next
        → lower f (fault_of (form_in s ps' (is_some x) t.next)) ≡ fault_of (form_in s ps' (is_some x) n)
        → changes_in s d u count ≡ words_of (is_some x) ps' v' → behind_changes d u count ≡ used
        → Changed s c d x n u (record { passed = record { next = t.next; fault = f }; used = used; count = count })
    word-stepped d count used h l o z f g b =
        let closing = (is_some x) in
        record {
          steps =
              record {
                from = l;
                most = q.held.most;
                kept = h;
                low = o;
                room = z;
                faults = f;
                changes_are =
                    ap (λ (cs : List Change). cs ++ changes_of closing ps' (stop_of s closing n) (inside s closing t.next)) g
                    ∙ sym (of_plain closing ps' (stop_of s closing n) v' (inside s closing t.next) no-star)
                    ∙ ap (changes_of closing ps' (stop_of s closing n)) (sym word-inner);
                used_is = b;
                rest = sym (rest-on k);
              };
          more = word-forward;
        }

  typed-none : parameter_of a.given ≡ None → word_changes ps' v' ≡ []
  typed-none e = word_by ps' v' ∙ ap (change_by v') judged.given_is ∙ typed-nothing v' (part s t.at t.end) a.given e

  no_words : (y : Scope) → value_in y a.given ≡ None → [] ≡ words_of (is_some y) ps' v'
  unfolding words_of
  no_words (Some p) h = sym (typed-none h)
  no_words None h = refl

  pub word_none : (b : Bool) → b ≡ wrong_by (is_some x) a.joins v' → {f : Fault} → f ≡ then_some b t.at → value_in x a.given ≡ None
      → ChangedBy s c c x t u (record { passed = record { next = t.next; fault = f }; used = u; count = 0 })
  unfolding changes_in behind_changes
  word_none b e g h =
      record { is = λ n k. let z = word-forward k in word-stepped k c 0 u (kept-none c u) (omega arith) (le_refl u) (omega arith) (word-faults k b e g) (no_words x h) refl }

  -- a parameter
  end-is_end : end_of v' ≡ t.end
  end-is_end = let z = q.held in simp (length-take, length-drop) (omega (arith, z.own, z.ends))

  abbrev pub from_place : ℕ
  from_place = (replaced t a.given).0

  abbrev pub to_place : ℕ
  to_place = (replaced t a.given).1

  abbrev value_change : ℕ → ℕ → ℕ → Change
  value_change k b e = record { start = b; stop = e; pieces = value k ∷ [] }

  joined-not : {k : ℕ} → given_of ps' v' ≡ joined (part s t.at t.end) k → t.joined ≡ None → ⊥
  unfolding given_of
  joined-not {k} e z = go (is_word v' && is_parameter ps' v'.typed) (rw z at e)
    where
      go : (b : Bool) → cond b (parameter (number_of ps' v'.typed)) (typed v'.typed) ≡ joined (part s t.at t.end) k → ⊥
      go true e = let z : ◌≡◌ {A = ℕ} 0 1 = cc in omega arith
      go false e = let z : ◌≡◌ {A = ℕ} 0 1 = cc in omega arith

  joined_ends : (t.joined ≡ None → ⊥) → end_of v' + 1 + length (head_or [] v'.joined) ≡ unwrap_or t.joined t.end
  joined_ends z = rw end-is_end (go t.joined q.held.joined_ends z)
    where
      go : (o : Option ℕ) → IfSome o (λ b. (t.end + 1 ≤ b) × (b ≤ t.next)) → (o ≡ None → ⊥) → t.end + 1 + length (head_or [] (joined_at s t.end o)) ≡ unwrap_or o t.end
      go None h x = absurd (x refl)
      go (Some b) h x = simp (length-take, length-drop) (omega (arith, h.0, h.1, q.held.most))

  one_word : {k : ℕ} → parameter_of a.given ≡ Some k → word_changes ps' v' ≡ value_change k from_place to_place ∷ []
  unfolding given_as
  one_word {k} e = word_by ps' v' ∙ go a.given judged.given_is e
    where
      go : (g : held.Given) → given_of ps' v' ≡ given_as g (part s t.at t.end) → parameter_of g ≡ Some k
          → change_by v' (given_of ps' v') ≡ value_change k (replaced t g).0 (replaced t g).1 ∷ []
      go Typed g e = absurd (none-some k e)
      go (Parameter j) g e = ap (change_by v') g ∙ (λ i. value_change (same_Some j k e i) t.at (end-is_end i) ∷ [])
      go (Joined j) g e = ap (change_by v') g ∙ (let z = joined_ends (joined-not g) in λ i. value_change (same_Some j k e i) (end-is_end i) (z i) ∷ [])

  pub room_word : u + 2 ≤ length c
  room_word = omega (arith, q.held.most, q.room)

  pub places-low : (from_place < 65536) × (to_place < 65536)
  places-low = go a.given
    where
      joined-low : (o : Option ℕ) → IfSome o (λ b. (t.end + 1 ≤ b) × (b ≤ t.next)) → unwrap_or o t.end < 65536
      joined-low None h = omega (arith, q.held.ends, q.held.small)
      joined-low (Some b) h = omega (arith, h.1, q.held.most, q.held.small)

      behind : (t.end < 65536) × (unwrap_or t.joined t.end < 65536)
      behind = let h = q.held in (omega (arith, h.ends, h.small), joined-low t.joined h.joined_ends)

      go : (g : held.Given) → ((replaced t g).0 < 65536) × ((replaced t g).1 < 65536)
      go Typed = behind
      go (Parameter k) = let h = q.held in (omega (arith, h.own, h.ends, h.small), omega (arith, h.ends, h.small))
      go (Joined k) = behind

  in-body : (y : Scope) {k : ℕ} → value_in y a.given ≡ Some k → parameter_of a.given ≡ Some k
  in-body (Some p) h = h
  in-body None {k} h = absurd (none-some k h)

  pub value_low : {k : ℕ} → value_in x a.given ≡ Some k → k < 65536
  value_low {k} h = rw (in-body x h) at judged.number_low

  words-there : (y : Scope) {k : ℕ} → value_in y a.given ≡ Some k → words_of (is_some y) ps' v' ≡ value_change k from_place to_place ∷ []
  unfolding words_of
  words-there (Some p) h = one_word h
  words-there None {k} h = absurd (none-some k h)

  pub word-one : {k : ℕ} → value_in x a.given ≡ Some k → (b : Bool) → b ≡ wrong_by (is_some x) a.joins v' → {f : Fault} → f ≡ then_some b t.at
      → ChangedBy s c (cells s c u from_place to_place (paired 0 k) room_word) x t u (record { passed = record { next = t.next; fault = f }; used = u + 2; count = 1 })
  unfolding changes_in behind_changes
  word-one {k} h b e g =
      let d = cells s c u from_place to_place (paired 0 k) room_word in
      let low = places-low.1 in
      let few = value_low h in
      record {
        is =
            λ n y.
            let z = word-forward y in
            word-stepped y d 1 (u + 2) (cells-kept s c u from_place to_place (paired 0 k) room_word) (omega arith) (omega arith) (omega arith) (word-faults y b e g)
            (ap (λ (z : Change). z ∷ []) (value_is s c u from_place to_place k room_word low few) ∙ sym (words-there x h))
            (ap (λ (z : ℕ). u + z) (value-size s c u from_place to_place k room_word low few));
      }
