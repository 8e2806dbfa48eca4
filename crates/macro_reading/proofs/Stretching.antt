-- The list of macros, stretch by stretch: what a header, the bracket behind it and what follows say of the first stretch, and of the others.
use mathlib.Core.Path.{◌≡◌, refl, ap, sym, ◌∙◌}
use mathlib.Core.Bool.{Bool, true, false, not, ◌&&◌, ◌||◌, false≢true}
use mathlib.Core.List.{List, [], ◌∷◌, ◌++◌}
use Prim.Native.Nat.{suc}
use native.Mathlib.Omega.{arith}
use lib.Dec.{eqb}
use lib.ListN.{take, drop}
use borrow.Author.Tests.{ne_eqb, eqb-true}
use Rattle.std.proofs.lemmas.Bool.{or_parts}
use Rattle.lists.specs.Lists.{ahead, any, filled, head_or, if_any, joined}
use Rattle.syntax.specs.Items.{same_sort}
use Rattle.syntax.specs.Items.Sort.{wrong}
use Rattle.macros.specs.Elements.{Element, is_open, is_close, is_bracket, until, from, cut_off, stretches}
use Rattle.macros.specs.Macros.{has_body}
use Rattle.macros.proofs.PlaceLaws.{joined-stretches}
use Rattle.macros.specs.Conditions.{bodiless}
use Rattle.macro_reading.specs.Definitions.{stretch, defined_in, last_in, after_in}
use Rattle.macro_changes.proofs.Searching.{until-on, until-off, from_on, from-off}

-- the first stretch up to a closing bracket, and the others
abbrev others_of : List Element → List (List Element)
others_of [] = []
others_of (b ∷ rs) = stretches is_close rs

stretches-first : (us : List Element) → stretches is_close us ≡ stretch us ∷ others_of (from is_close us)
unfolding stretches cut_off
stretches-first [] = refl
stretches-first (t ∷ ts) = go (is_close t) (stretches-first ts)
  where
    go : (b : Bool) → stretches is_close ts ≡ stretch ts ∷ others_of (from is_close ts)
        → cut_off b t (stretches is_close ts)
        ≡ (take (elim b [ true ↦ 0 | false ↦ suc (ahead is_close ts) ]) (t ∷ ts) ++ take 1 (drop (elim b [ true ↦ 0 | false ↦ suc (ahead is_close ts) ]) (t ∷ ts)))
        ∷ others_of (drop (elim b [ true ↦ 0 | false ↦ suc (ahead is_close ts) ]) (t ∷ ts))
    go true h = refl
    go false h = ap (λ (xs : List (List Element)). (t ∷ head_or [] xs) ∷ drop 1 xs) h

module _ (us : List Element) where
  abbrev later : List Element
  later = drop 1 (from is_close us)

  module _ (h : has_body (stretch us) ≡ true) where
    with-body : not (has_body (stretch us)) ≡ false
    with-body = ap not h

    pub defined-on : defined_in us ≡ stretch us ∷ defined_in later
    unfolding stretches
    defined-on = ap (until bodiless) (stretches-first us) ∙ until-on bodiless (stretch us) (others_of (from is_close us)) with-body ∙ ap (λ (xs : List (List Element)). stretch us ∷ xs) (go (from is_close us))
      where
        go : (rs : List Element) → until bodiless (others_of rs) ≡ defined_in (drop 1 rs)
        go [] = refl
        go (b ∷ rs) = refl

    from-later : from bodiless (stretches is_close us) ≡ from bodiless (others_of (from is_close us))
    from-later = ap (from bodiless) (stretches-first us) ∙ from_on bodiless (stretch us) (others_of (from is_close us)) with-body

    pub last_on : last_in us ≡ last_in later
    unfolding stretches
    last_on = ap (head_or []) from-later ∙ go (from is_close us)
      where
        go : (rs : List Element) → head_or [] (from bodiless (others_of rs)) ≡ last_in (drop 1 rs)
        go [] = refl
        go (b ∷ rs) = refl

    pub after_on : after_in us ≡ after_in later
    unfolding stretches
    after_on = ap (λ (xs : List (List Element)). joined (drop 1 xs)) from-later ∙ go (from is_close us)
      where
        go : (rs : List Element) → joined (drop 1 (from bodiless (others_of rs))) ≡ after_in (drop 1 rs)
        go [] = refl
        go (b ∷ rs) = refl

  module _ (h : has_body (stretch us) ≡ false) where
    without : not (has_body (stretch us)) ≡ true
    without = ap not h

    pub defined-none : defined_in us ≡ []
    defined-none = ap (until bodiless) (stretches-first us) ∙ until-off bodiless (stretch us) (others_of (from is_close us)) without

    from_here : from bodiless (stretches is_close us) ≡ stretch us ∷ others_of (from is_close us)
    from_here = ap (from bodiless) (stretches-first us) ∙ from-off bodiless (stretch us) (others_of (from is_close us)) without

    pub last-here : last_in us ≡ stretch us
    last-here = ap (head_or []) from_here

    pub after-here : after_in us ≡ later
    after-here = ap (λ (xs : List (List Element)). joined (drop 1 xs)) from_here ∙ go (from is_close us)
      where
        go : (rs : List Element) → joined (others_of rs) ≡ drop 1 rs
        go [] = refl
        go (b ∷ rs) = joined-stretches is_close rs

-- a header and the bracket behind it
open-close : (t : Element) → is_open t ≡ true → is_close t ≡ false
open-close t h = go (same_sort wrong t.sort) (eqb 40 t.byte) refl h
  where
    go : (w e : Bool) → eqb 40 t.byte ≡ e → (w && e) ≡ true → (w && eqb 41 t.byte) ≡ false
    go true true e k = ne_eqb 41 t.byte (λ y. let z = eqb-true 40 t.byte e in omega arith)
    go true false e k = absurd (false≢true k)
    go false e f k = absurd (false≢true k)

stretch-more : (t : Element) (ts : List Element) → is_close t ≡ false → stretch (t ∷ ts) ≡ t ∷ stretch ts
stretch-more t ts e = let a = until-on is_close t ts e in let b = from_on is_close t ts e in λ i. a i ++ take 1 (b i)

pub record Opened (us : List Element) (b : Element) (rs : List Element) : Type 0 where
  pub header_is : until is_open (stretch us) ≡ until is_bracket us
  pub body_is : from is_open (stretch us) ≡ b ∷ stretch rs
  pub rest_is : from is_close us ≡ from is_close rs

opened-here : (t : Element) (ts : List Element) → is_open t ≡ true → Opened (t ∷ ts) t ts
opened-here t ts o =
    let c = open-close t o in
    let s = stretch-more t ts c in
    let q : is_bracket t ≡ true = rw o refl in
    record {
      header_is = ap (until is_open) s ∙ until-off is_open t (stretch ts) o ∙ sym (until-off is_bracket t ts q);
      body_is = ap (from is_open) s ∙ from-off is_open t (stretch ts) o;
      rest_is = from_on is_close t ts c;
    }

opened-later : (t : Element) (ts : List Element) {b : Element} {rs : List Element} → is_bracket t ≡ false → Opened ts b rs → Opened (t ∷ ts) b rs
opened-later t ts e h =
    let p = or_parts (is_open t) (is_close t) e in
    let s = stretch-more t ts p.1 in
    record {
      header_is = ap (until is_open) s ∙ until-on is_open t (stretch ts) p.0 ∙ ap (λ (us : List Element). t ∷ us) h.header_is ∙ sym (until-on is_bracket t ts e);
      body_is = ap (from is_open) s ∙ from_on is_open t (stretch ts) p.0 ∙ h.body_is;
      rest_is = from_on is_close t ts p.1 ∙ h.rest_is;
    }

pub opened : (us : List Element) (b : Element) (rs : List Element) → from is_bracket us ≡ b ∷ rs → is_open b ≡ true → Opened us b rs
opened [] b rs e o = absurd (false≢true (ap filled e))
opened (t ∷ ts) b rs e o = go (is_bracket t) refl (opened ts b rs)
  where
    go : (z : Bool) → is_bracket t ≡ z → (from is_bracket ts ≡ b ∷ rs → is_open b ≡ true → Opened ts b rs) → Opened (t ∷ ts) b rs
    go true q k =
        let same = sym (from-off is_bracket t ts q) ∙ e in
        let x : t ≡ b = ap (head_or t) same in
        let y : ts ≡ rs = ap (drop 1) same in
        rw (sym x, sym y) (opened-here t ts (rw (sym x) at o))
    go false q k = opened-later t ts q (k (sym (from_on is_bracket t ts q) ∙ e) o)

pub record Unopened (us : List Element) : Type 0 where
  pub bodiless_is : has_body (stretch us) ≡ false
  pub header_is : until is_close (stretch us) ≡ until is_bracket us
  pub rest_is : from is_close us ≡ from is_bracket us

pub unopened : (us : List Element) → if_any false is_open (from is_bracket us) ≡ false → Unopened us
unopened [] h = record { bodiless_is = refl; header_is = refl; rest_is = refl }
unopened (t ∷ ts) h = go (is_bracket t) refl (unopened ts)
  where
    here : is_bracket t ≡ true → is_open t ≡ false → Unopened (t ∷ ts)
    here q o =
        let c : is_close t ≡ true = rw o at q in
        let a = until-off is_close t ts c in
        let b = from-off is_close t ts c in
        let s : stretch (t ∷ ts) ≡ t ∷ [] = λ i. a i ++ take 1 (b i) in
        record {
          bodiless_is = ap has_body s ∙ rw o refl;
          header_is = ap (until is_close) s ∙ until-off is_close t [] c ∙ sym (until-off is_bracket t ts q);
          rest_is = b ∙ sym (from-off is_bracket t ts q);
        }

    go : (z : Bool) → is_bracket t ≡ z → (if_any false is_open (from is_bracket ts) ≡ false → Unopened ts) → Unopened (t ∷ ts)
    go true q k = here q (sym (ap (if_any false is_open) (from-off is_bracket t ts q)) ∙ h)
    go false q k =
        let r = k (sym (ap (if_any false is_open) (from_on is_bracket t ts q)) ∙ h) in
        let p = or_parts (is_open t) (is_close t) q in
        let s = stretch-more t ts p.1 in
        record {
          bodiless_is = ap has_body s ∙ rw p.0 r.bodiless_is;
          header_is = ap (until is_close) s ∙ until-on is_close t (stretch ts) p.1 ∙ ap (λ (us : List Element). t ∷ us) r.header_is ∙ sym (until-on is_bracket t ts q);
          rest_is = from_on is_close t ts p.1 ∙ r.rest_is ∙ sym (from_on is_bracket t ts q);
        }

-- a stretch tells as much as all that follows
pub until-stretch : (us : List Element) → until is_close (stretch us) ≡ until is_close us
until-stretch [] = refl
until-stretch (t ∷ ts) = go (is_close t) refl (until-stretch ts)
  where
    go : (b : Bool) → is_close t ≡ b → until is_close (stretch ts) ≡ until is_close ts → until is_close (stretch (t ∷ ts)) ≡ until is_close (t ∷ ts)
    go true e h =
        let a = until-off is_close t ts e in
        let b = from-off is_close t ts e in
        let s : stretch (t ∷ ts) ≡ t ∷ [] = λ i. a i ++ take 1 (b i) in
        ap (until is_close) s ∙ until-off is_close t [] e ∙ sym a
    go false e h =
        ap (until is_close) (stretch-more t ts e) ∙ until-on is_close t (stretch ts) e ∙ ap (λ (us : List Element). t ∷ us) h ∙ sym (until-on is_close t ts e)

pub from-stretch : (us : List Element) → from is_close (stretch us) ≡ take 1 (from is_close us)
from-stretch [] = refl
from-stretch (t ∷ ts) = go (is_close t) refl (from-stretch ts)
  where
    go : (b : Bool) → is_close t ≡ b → from is_close (stretch ts) ≡ take 1 (from is_close ts) → from is_close (stretch (t ∷ ts)) ≡ take 1 (from is_close (t ∷ ts))
    go true e h =
        let a = until-off is_close t ts e in
        let b = from-off is_close t ts e in
        let s : stretch (t ∷ ts) ≡ t ∷ [] = λ i. a i ++ take 1 (b i) in
        ap (from is_close) s ∙ from-off is_close t [] e ∙ sym (ap (take 1) b)
    go false e h = ap (from is_close) (stretch-more t ts e) ∙ from_on is_close t (stretch ts) e ∙ h ∙ sym (ap (take 1) (from_on is_close t ts e))

pub any_found : (p : Element → Bool) (ts : List Element) → any p ts ≡ filled (from p ts)
any_found p [] = refl
any_found p (t ∷ ts) = go (p t) (any_found p ts)
  where
    go : (b : Bool) → any p ts ≡ filled (from p ts) → (b || any p ts) ≡ filled (drop (elim b [ true ↦ 0 | false ↦ suc (ahead p ts) ]) (t ∷ ts))
    go true h = refl
    go false h = h
