-- Elements one by one, and what a call gives.
use mathlib.Core.Path.{◌≡◌, refl, ap, sym, ◌∙◌}
use mathlib.Core.Bool.{Bool, true, false, cond, not, ◌&&◌, ◌||◌, false≢true, and-true}
use mathlib.Core.List.{List, [], ◌∷◌, ◌++◌, map, append_assoc}
use Prim.Native.Nat.{ℕ, ◌+◌, ◌*◌, ◌-◌, ◌/◌, ◌<◌}
use native.Mathlib.Omega.{arith}
use Rattle.std.specs.Prelude.{Option, Some, None, is_some, unwrap_or}
use Rattle.std.specs.Bool.{then_some}
use lib.Dec.{ltb}
use lib.ListN.{length, set}
use borrow.Author.Tests.{lt-ltb, le-ltb}
use Rattle.std.proofs.lemmas.Bool.{or_parts}
use Rattle.lists.specs.SearchLaws.{any-ahead}
use Rattle.layout.specs.Cells.{tab}
use Rattle.layout.proofs.CellLaws.{length-tab}
use Rattle.lexer.specs.Tokens.{part}
use Rattle.lists.specs.Lists.{filled, keep, bytes_equal}
use Rattle.statements.specs.Faults.{Fault}
use Rattle.std.specs.Prelude.{None, Some}
use Rattle.statements.specs.Faults.{lower}
use Rattle.statements.specs.FaultLaws.{fault-both}
use Rattle.statements.specs.StatementAt.{fault_of}
use Rattle.syntax.specs.Verdict.{lowest}
use Rattle.macros.specs.Elements as spec
use Rattle.macros.specs.Elements.{is_word, is_end, is_identifier, places_in, until, from}
use Rattle.macros.specs.Pieces.{Given, given_of, number_of, is_argument, is_parameter}
use Rattle.macro_code.specs.Code.{high, paired, bytes_at, given_in}
use Rattle.macro_code.specs.declared.Given.TheVariants.{Typed, Parameter, Joined}
use Rattle.macro_elements.specs.ElementAt.{elements_from, argument_value, Held, FirstElement, FirstBefore}
use Rattle.macro_elements.specs.declared.Element.{Element}
use Rattle.macro_changes.specs.Changing.{Kept, parameters_of, shuts, inside, given_as, kind_in, number_in, Found, Judged, Reading, InsideAt, GivenAt, ends_given, given_from, ends_from, argument_faults, Gives}
use Rattle.macro_changes.specs.declared.Answer.{Answer}
use Rattle.macro_changes.specs.Changing.{Scope, first_in, count_in}
use Rattle.macro_changes.proofs.Cells.{tab-cong, tab-last, kept-none, kept_on, parameters-same, given-same, given-written, place-written, given-kept}
use Rattle.lists.specs.SearchLaws.{any-ahead}
use Rattle.macro_changes.proofs.Searching.{until-on, until-off, from_on}
pub use Rattle.statements.specs.LowerLaws.{lower-assoc}

-- one test of an element before those of others
pub keep-first : (q : spec.Element → Bool) (t : spec.Element) (ts : List spec.Element) → places_in (keep q (t ∷ ts)) ≡ cond (q t) (t.at ∷ []) [] ++ places_in (keep q ts)
keep-first q t ts = go (q t)
  where
    go : (b : Bool) → places_in (cond b (t ∷ keep q ts) (keep q ts)) ≡ cond b (t.at ∷ []) [] ++ places_in (keep q ts)
    go true = refl
    go false = refl

-- whether something is at fault here
pub one-fault : (b : Bool) (p : ℕ) → then_some b p ≡ fault_of (cond b (p ∷ []) [])
unfolding lowest
one-fault true p = refl
one-fault false p = refl

-- one element, and what it shows of the others
module _ {s : List ℕ} {n : ℕ} {t : Element} (k : FirstElement s n t) where
  pub first_forward : n < t.next
  first_forward = let z = k.more in omega (arith, k.from)

  pub inside_shut : (closing : Bool) → shuts closing (argument_value s t) ≡ true → inside s closing n ≡ []
  inside_shut closing h = ap (until (shuts closing)) k.is ∙ until-off (shuts closing) (argument_value s t) (elements_from s t.next) h

module _ {s : List ℕ} {n : ℕ} {t : Element} {p : spec.Element → Bool} (k : FirstBefore p s n t) where
  pub stretch-on : until p (elements_from s n) ≡ argument_value s t ∷ until p (elements_from s t.next)
  stretch-on = ap (until p) k.first.is ∙ until-on p (argument_value s t) (elements_from s t.next) k.fails

  pub rest-on : from p (elements_from s n) ≡ from p (elements_from s t.next)
  rest-on = ap (from p) k.first.is ∙ from_on p (argument_value s t) (elements_from s t.next) k.fails

module _ {s : List ℕ} (closing : Bool) {n : ℕ} {t : Element} (k : InsideAt s closing n t) where
  pub given_here : is_end (argument_value s t) ≡ false → GivenAt s closing n t
  given_here h = record { inner = k; plain = h }

pub given_first : {s : List ℕ} {closing : Bool} {n : ℕ} {t : Element} → FirstBefore (ends_given closing) s n t → GivenAt s closing n t
given_first {s} {closing} {n} {t} k =
    let z = or_parts (shuts closing (argument_value s t)) (is_end (argument_value s t)) k.fails in
    given_here closing (record { first = k.first; fails = z.0 }) z.1

-- where the first of either end is met at once, no stretch is left between them
pub until-either : (p q : spec.Element → Bool) (ts : List spec.Element) → until (λ t. p t || q t) ts ≡ [] → until q (until p ts) ≡ []
until-either p q [] e = refl
until-either p q (t ∷ ts) e = go (p t) (q t) refl refl
  where
    go : (a b : Bool) → p t ≡ a → q t ≡ b → until q (until p (t ∷ ts)) ≡ []
    go true b h k = ap (until q) (until-off p t ts h)
    go false true h k = ap (until q) (until-on p t ts h) ∙ until-off q t (until p ts) k
    go false false h k = absurd (false≢true (ap filled (sym e ∙ until-on (λ t. p t || q t) t ts (rw (h, k) refl))))

module _ {s : List ℕ} {closing : Bool} {n : ℕ} {t : Element} (k : GivenAt s closing n t) where
  pub given-on : given_from s closing n ≡ argument_value s t ∷ given_from s closing t.next
  given-on = ap (until is_end) (stretch-on k.inner) ∙ until-on is_end (argument_value s t) (inside s closing t.next) k.plain

  pub ends_on : ends_from s closing n ≡ ends_from s closing t.next
  ends_on = ap (from is_end) (stretch-on k.inner) ∙ from_on is_end (argument_value s t) (inside s closing t.next) k.plain

-- What an element is as a name or an argument
module _ (s c : List ℕ) (x : Scope) {t : Element} (held : Held s t) where
  abbrev ps : List (List ℕ)
  ps = parameters_of s c x

  is_found : (w : List ℕ) → is_parameter ps w ≡ ltb (number_of ps w) (count_in x)
  is_found w = any-ahead (bytes_equal w) ps ∙ rw (length-tab (count_in x) (λ j. bytes_at s c ((first_in x) + j))) refl

  found-some : (w : List ℕ) (r : Option ℕ) → Found s c x w r → is_parameter ps w ≡ is_some r
  found-some w None f = is_found w ∙ le-ltb (number_of ps w) (count_in x) (omega (arith, f))
  found-some w (Some k) f = is_found w ∙ lt-ltb (number_of ps w) (count_in x) (omega (arith, f.0, f.1))

  found-number : (w : List ℕ) (r : Option ℕ) → Found s c x w r → unwrap_or r (count_in x) ≡ number_of ps w
  found-number w None f = sym f
  found-number w (Some k) f = f.0

  found-low : (w : List ℕ) (r : Option ℕ) → Found s c x w r → (count_in x) < 65536 → unwrap_or r (count_in x) < 65536
  found-low w None f few = few
  found-low w (Some k) f few = omega (arith, f.1, few)

  pub joined-answer : {i : Bool} {b : ℕ} → t.joined ≡ Some b → (count_in x) < 65536 → (r : Option ℕ) → Found s c x (part s (t.end + 1) b) r
      → i ≡ is_identifier (argument_value s t) → Judged s c x t (record { given = Joined (unwrap_or r (count_in x)); joins = i && is_some r })
  unfolding given_of given_as
  joined-answer {i} {b} z few r f e =
      let w = part s (t.end + 1) b in
      record {
        number_low = found-low w r f few;
        given_is = rw (z, found-number w r f) refl;
        joins_is = rw z (rw (found-some w r f, ← e) (sym (and-true (i && is_some r))));
      }

  pub other-answer : t.joined ≡ None → is_word (argument_value s t) ≡ false → Judged s c x t (record { given = Typed; joins = true })
  unfolding given_of given_as
  other-answer z w = record { number_low = omega arith; given_is = rw (z, w) refl; joins_is = rw z refl }

  module _ (z : t.joined ≡ None) (w : is_word (argument_value s t) ≡ true) where
    pub parameter-answer : {k : ℕ} → Found s c x (part s t.at t.end) (Some k) → (count_in x) < 65536 → Judged s c x t (record { given = Parameter k; joins = true })
    unfolding given_of given_as
    parameter-answer {k} f few =
        record { number_low = omega (arith, f.1, few); given_is = rw (z, w, found-some (part s t.at t.end) (Some k) f, f.0) refl; joins_is = rw z refl }

    pub typed-answer : Found s c x (part s t.at t.end) None → Judged s c x t (record { given = Typed; joins = true })
    unfolding given_of given_as
    typed-answer f = record { number_low = omega arith; given_is = rw (z, w, found-some (part s t.at t.end) None f) refl; joins_is = rw z refl }

-- One element more of what a call gives
module _ {s m c : List ℕ} {x : Scope} {n u : ℕ} (q : Reading s m c x n u) where
  pub gives_none : Gives s c c x n u n 0 None
  unfolding tab
  gives_none = record { from = omega arith; most = q.lent.most; kept = kept-none c u; gives = refl; places = refl; faults = refl; ends = refl; rest = refl }

  module _ {d : List ℕ} {i k : ℕ} {f : Fault} (g : Gives s c d x n u i k f) {t : Element} (e : GivenAt s (is_some x) i t) {a : Answer} (j : Judged s d x t a) where
    abbrev w : ℕ
    w = u + 2 * k

    pub forward : i < t.next
    forward = first_forward e.inner.first

    pub room-on : w + 1 < length d
    room-on = omega (arith, g.from, forward, e.inner.first.held.most, q.room, g.kept.size)

    abbrev long : ℕ
    long = t.end - t.at

    pub long-low : long < 65536
    long-low = let y = e.inner.first.held in omega (arith, y.ends, y.small)

    abbrev written : List ℕ
    written = set (set d w (paired t.at long)) (w + 1) (paired (kind_in a.given) (number_in a.given))

    written-kept : Kept d written w
    written-kept = given-kept s d w t.at long a.given room-on long-low j.number_low

    abbrev given_there : Given
    given_there = given_of (parameters_of s c x) (argument_value s t)

    same-parameters : parameters_of s d x ≡ parameters_of s c x
    same-parameters = parameters-same g.kept s x q.scoped

    given-here : given_in s written w ≡ given_there
    given-here =
        given-written s d w t.at long a.given room-on long-low j.number_low
        ∙ sym j.given_is
        ∙ ap (λ (ps : List (List ℕ)). given_of ps (argument_value s t)) same-parameters

    givens : tab (k + 1) (λ o. given_in s written (u + 2 * o)) ≡ tab k (λ o. given_in s d (u + 2 * o)) ++ (given_there ∷ [])
    givens =
        tab-last k (λ o. given_in s written (u + 2 * o))
        ∙ (let b = tab-cong k (λ o. given_in s written (u + 2 * o)) (λ o. given_in s d (u + 2 * o)) (λ o l. given-same written-kept s (u + 2 * o) (omega arith)) in
        λ z. b z ++ (given-here z ∷ []))

    placings : tab (k + 1) (λ o. high written (u + 2 * o)) ≡ tab k (λ o. high d (u + 2 * o)) ++ (t.at ∷ [])
    placings =
        tab-last k (λ o. high written (u + 2 * o))
        ∙ (let b = tab-cong k (λ o. high written (u + 2 * o)) (λ o. high d (u + 2 * o)) (λ o l. ap (λ (y : ℕ). y / 65536) (written-kept.same (u + 2 * o) (omega arith))) in
        let p = place-written s d w t.at long a.given room-on long-low j.number_low in
        λ z. b z ++ (p z ∷ []))

    pub gives-on : (b : Bool) → b ≡ not (is_argument (parameters_of s d x) (argument_value s t)) → Gives s c written x n u t.next (k + 1) (lower f (then_some b t.at))
    gives-on b r =
        let closing = (is_some x) in
        let ps = parameters_of s c x in
        let on = given-on e in
        let rest = given_from s closing t.next in
        record {
          from = omega (arith, g.from, forward);
          most = e.inner.first.held.most;
          kept = kept_on g.kept written-kept (omega arith);
          gives =
              ap (λ (ys : List Given). ys ++ map (given_of ps) rest) givens
              ∙ append_assoc (tab k (λ o. given_in s d (u + 2 * o))) (given_there ∷ []) (map (given_of ps) rest)
              ∙ ap (λ (ts : List spec.Element). tab k (λ o. given_in s d (u + 2 * o)) ++ map (given_of ps) ts) (sym on)
              ∙ g.gives;
          places =
              ap (λ (ys : List ℕ). ys ++ places_in rest) placings
              ∙ append_assoc (tab k (λ o. high d (u + 2 * o))) (t.at ∷ []) (places_in rest)
              ∙ ap (λ (ts : List spec.Element). tab k (λ o. high d (u + 2 * o)) ++ places_in ts) (sym on)
              ∙ g.places;
          faults =
              ap (λ (y : Fault). lower (lower f y) (fault_of (argument_faults ps rest))) (one-fault b t.at)
              ∙ lower-assoc f (fault_of (cond b (t.at ∷ []) [])) (fault_of (argument_faults ps rest))
              ∙ ap (lower f) (sym (fault-both (cond b (t.at ∷ []) []) (argument_faults ps rest)))
              ∙ ap (λ (y : List ℕ). lower f (fault_of y)) (one b (r ∙ ap (λ (ps : List (List ℕ)). not (is_argument ps (argument_value s t))) same-parameters))
              ∙ g.faults;
          ends = sym (ends_on e) ∙ g.ends;
          rest = sym (rest-on e.inner) ∙ g.rest;
        }
      where
        one : (b : Bool) → b ≡ not (is_argument (parameters_of s c x) (argument_value s t))
            → cond b (t.at ∷ []) [] ++ argument_faults (parameters_of s c x) (given_from s (is_some x) t.next) ≡ argument_faults (parameters_of s c x) (given_from s (is_some x) i)
        one b r =
            ap (λ (y : Bool). cond y (t.at ∷ []) [] ++ argument_faults (parameters_of s c x) (given_from s (is_some x) t.next)) r
            ∙ sym (keep-first (λ y. not (is_argument (parameters_of s c x) y)) (argument_value s t) (given_from s (is_some x) t.next))
            ∙ ap (argument_faults (parameters_of s c x)) (sym (given-on e))

pub argument_is : {s c : List ℕ} {x : Scope} {t : Element} {a : Answer} (j : Judged s c x t a) (b : Bool)
    → b ≡ (spec.is_text (argument_value s t) || (spec.is_listed (argument_value s t) && a.joins)) → not b ≡ not (is_argument (parameters_of s c x) (argument_value s t))
argument_is {s} {c} {x} {t} j b e = ap not (e ∙ ap (λ (y : Bool). spec.is_text (argument_value s t) || (spec.is_listed (argument_value s t) && y)) j.joins_is)
