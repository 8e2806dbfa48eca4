-- The first place that is over is the lowest.
use Rattle.std.specs.Prelude.{◌≡◌, refl, Bool, true, false, cond, ◌||◌, List, [], ◌∷◌, ◌++◌, map, ℕ, zero, suc, ◌+◌, ◌-◌, ◌≤◌, ◌<◌, T, leb, ltb, length, drop}
use Rattle.std.proofs.Common.{sym, ap, ◌∙◌, true≢false, arith, ltb-true, ltb-false, le→leb, drop_of_length-le, length-append, length-drop}
use Rattle.std.proofs.lemmas.Bool.{false≢true}
use Rattle.std.proofs.lemmas.List.{length-map}
use Rattle.lists.specs.ListLaws.{T-both}
use Rattle.macro_values.specs.declared.Written.{Written}
use Rattle.macro_values.specs.WritingLaws.{lower-assoc}
use Rattle.macro_values.specs.Wrote.{is_over, size_of, Wrote}
use Rattle.macros.specs.Expansion.{Writing, just}
use Rattle.statements.specs.Faults.{lower}
use Rattle.statements.specs.FaultLaws.{fault-both}
use Rattle.statements.specs.LowestLaws.{fault-first}
use Rattle.statements.specs.Places.{none_before}
use Rattle.statements.specs.StatementAt.{fault_of}
use Rattle.statements.specs.Faults.{Fault}
use Rattle.std.specs.Prelude.{None, Some}
use Rattle.syntax.specs.Items.{up_from}
use Rattle.syntax.specs.Verdict.{lowest}
use Rattle.macro_section.specs.Long.{over_at, Long}

lower-comm : (a b : Fault) → lower a b ≡ lower b a
lower-comm None None = refl
lower-comm None (Some q) = refl
lower-comm (Some p) None = refl
lower-comm (Some p) (Some q) = ap Some (omega arith)

lower-swap : (a b c d : Fault) → lower (lower a b) (lower c d) ≡ lower (lower a c) (lower b d)
lower-swap a b c d =
    lower-assoc a b (lower c d)
    ∙ ap (lower a) (sym (lower-assoc b c d) ∙ ap (λ x. lower x d) (lower-comm b c) ∙ lower-assoc c b d)
    ∙ sym (lower-assoc a c (lower b d))

drop-both : (n : ℕ) (xs ys : List ℕ) → drop n (xs ++ ys) ≡ drop n xs ++ drop (n - length xs) ys
drop-both zero xs ys = let e : 0 - length xs ≡ 0 = omega arith in rw e
drop-both (suc n) [] ys = let e : suc n - 0 ≡ suc n = omega arith in rw e
drop-both (suc n) (x ∷ xs) ys = let e : suc n - suc (length xs) ≡ n - length xs = omega arith in rw e (drop-both n xs ys)

-- with more places
grows : (room : ℕ) (ds es from more : List ℕ) (long : Fault) → long ≡ fault_of (ds ++ drop room from)
    → fault_of ((ds ++ es) ++ drop room (from ++ more)) ≡ lower long (fault_of (es ++ drop (room - length from) more))
grows room ds es from more long e =
    let x = drop room from in
    let y = drop (room - length from) more in
    ap (λ l. fault_of ((ds ++ es) ++ l)) (drop-both room from more)
    ∙ fault-both (ds ++ es) (x ++ y)
    ∙ ap (λ z. lower z (fault_of (x ++ y))) (fault-both ds es)
    ∙ ap (lower (lower (fault_of ds) (fault_of es))) (fault-both x y)
    ∙ lower-swap (fault_of ds) (fault_of es) (fault_of x) (fault_of y)
    ∙ ap (λ z. lower z (lower (fault_of es) (fault_of y))) (sym (fault-both ds x))
    ∙ ap (lower (fault_of (ds ++ x))) (sym (fault-both es y))
    ∙ ap (λ z. lower z (fault_of (es ++ y))) (sym e)

-- a place that is no later than others
at_least : (p : ℕ) (xs : List ℕ) → T (none_before p xs) → lower (Some p) (fault_of xs) ≡ Some p
unfolding lowest
at_least p xs h = sym (fault-both (p ∷ []) xs) ∙ fault-first p xs h

-- places that stay
ups-later : (p place : ℕ) (w : List ℕ) → p ≤ place → T (none_before p (up_from place w))
unfolding up_from
ups-later p place [] l = tt
ups-later p place (b ∷ w) l = T-both (leb p place) (none_before p (up_from (suc place) w)) (le→leb p place l) (ups-later p (suc place) w (omega arith))

drop-ups : (j place : ℕ) (w : List ℕ) → drop j (up_from place w) ≡ up_from (place + j) (drop j w)
unfolding up_from
drop-ups zero place w = let e : place + 0 ≡ place = omega arith in rw e
drop-ups (suc j) place [] = refl
drop-ups (suc j) place (b ∷ w) = let e : place + suc j ≡ suc place + j = omega arith in rw e (drop-ups j (suc place) w)

first-up : (place : ℕ) (w : List ℕ) → 0 < length w → fault_of (up_from place w) ≡ Some place
unfolding up_from
first-up place [] l = absurd (omega arith)
first-up place (b ∷ w) l = fault-first place (up_from (suc place) w) (ups-later place (suc place) w (omega arith))

-- one place again and again
sames-later : (p at : ℕ) (w : List ℕ) → p ≤ at → T (none_before p (map (λ b. at) w))
sames-later p at [] l = tt
sames-later p at (b ∷ w) l = T-both (leb p at) (none_before p (map (λ b. at) w)) (le→leb p at l) (sames-later p at w l)

drop-sames : (j at : ℕ) (w : List ℕ) → drop j (map (λ b. at) w) ≡ map (λ b. at) (drop j w)
drop-sames zero at w = refl
drop-sames (suc j) at [] = refl
drop-sames (suc j) at (b ∷ w) = drop-sames j at w

first-same : (at : ℕ) (w : List ℕ) → 0 < length w → fault_of (map (λ b. at) w) ≡ Some at
first-same at [] l = absurd (omega arith)
first-same at (b ∷ w) l = fault-first at (map (λ b. at) w) (sames-later at at w (omega arith))

-- a step: what comes next is no earlier; where it is over first, at q, is the lowest place of it
pub long-step : (room : ℕ) (ds es from more : List ℕ) (w w' : Written) (long long' : Fault) (place place' q : ℕ) → Long room ds from w long place → (is_over w ≡ true → is_over w' ≡ true)
    → (is_over w' ≡ false → size_of w' ≡ length (from ++ more)) → place ≤ place' → ((p : ℕ) → p ≤ place → T (none_before p (es ++ drop (room - length from) more)))
    → (is_over w ≡ false → is_over w' ≡ true → (fault_of (es ++ drop (room - length from) more) ≡ Some q) × (q ≤ place'))
    → (is_over w ≡ false → is_over w' ≡ false → fault_of (es ++ drop (room - length from) more) ≡ None)
    → long' ≡ over_at long (is_over w) (is_over w') q → Long room (ds ++ es) (from ++ more) w' long' place'
long-step room ds es from more w w' long long' place place' q h stays count l later first clear e = go (is_over w) (is_over w') refl refl
  where
    x : Fault
    x = fault_of (es ++ drop (room - length from) more)

    g : fault_of ((ds ++ es) ++ drop room (from ++ more)) ≡ lower long x
    g = grows room ds es from more long h.long_is

    go : (a b : Bool) → is_over w ≡ a → is_over w' ≡ b → Long room (ds ++ es) (from ++ more) w' long' place'
    go true false y z = absurd (true≢false (sym (stays y) ∙ z))
    go true true y z =
        let k = h.bad y in
        let d : long' ≡ long = rw y at e in
        let m = k.2 in
        record {
          long_is = d ∙ sym (g ∙ ap (λ u. lower u x) k.1 ∙ at_least k.0 (es ++ drop (room - length from) more) (later k.0 k.2) ∙ sym k.1);
          count = count;
          fine = λ u. absurd (true≢false (sym z ∙ u));
          bad = λ u. (k.0, d ∙ k.1, omega arith);
        }
    go false true y z =
        let d : long' ≡ Some q = rw (y, z) at e in
        let k = first y z in
        record {
          long_is = d ∙ sym (g ∙ ap (λ u. lower u x) (h.fine y) ∙ k.0);
          count = count;
          fine = λ u. absurd (true≢false (sym z ∙ u));
          bad = λ u. (q, d, k.1);
        }
    go false false y z =
        let d : long' ≡ long = rw (y, z) at e in
        record {
          long_is = d ∙ h.fine y ∙ sym (g ∙ ap (λ u. lower u x) (h.fine y) ∙ clear y z);
          count = count;
          fine = λ u. d ∙ h.fine y;
          bad = λ u. absurd (false≢true (sym z ∙ u));
        }

over-stays : (a b r : Bool) → r ≡ (a || b) → a ≡ true → r ≡ true
over-stays a b r e y = rw y at e

over_none : (a b r : Bool) → r ≡ (a || b) → a ≡ false → r ≡ b
over_none a b r e y = rw y at e

-- bytes that stay
pub long_kept : (ds from bytes o p : List ℕ) (w w' : Written) (long long' : Fault) (place place' : ℕ) → Long (length o) ds from w long place → size_of w ≤ length o
    → Wrote (just bytes) w w' o p → place + length bytes ≤ place' → long' ≡ over_at long (is_over w) (is_over w') (place + (length o - size_of w))
    → Long (length o) (ds ++ []) (from ++ up_from place bytes) w' long' place'
unfolding up_from
long_kept ds from bytes o p w w' long long' place place' h within k l e =
    long-step (length o) ds [] from (up_from place bytes) w w' long long' place place' (place + (length o - size_of w)) h
    (over-stays (is_over w) (ltb (length o) (size_of w + length bytes)) (is_over w') k.over) count (omega arith)
    (λ a b. rw (drop-ups (length o - length from) place bytes) (ups-later a (place + (length o - length from)) (drop (length o - length from) bytes) (omega arith)))
    first clear e
  where
    not-over : is_over w' ≡ false → is_over w ≡ false
    not-over z = go (is_over w) (sym k.over ∙ z)
      where
        go : (a : Bool) → (a || ltb (length o) (size_of w + length bytes)) ≡ false → a ≡ false
        go true y = y
        go false y = refl

    ups-length : (q : ℕ) (u : List ℕ) → length (up_from q u) ≡ length u
    ups-length q [] = refl
    ups-length q (b ∷ u) = ap suc (ups-length (suc q) u)

    count : is_over w' ≡ false → size_of w' ≡ length (from ++ up_from place bytes)
    count z =
        let a = (k.within z).0 in
        let b = h.count (not-over z) in
        let d = ups-length place bytes in
        simp length-append (omega arith)

    first : is_over w ≡ false → is_over w' ≡ true
        → (fault_of ([] ++ drop (length o - length from) (up_from place bytes)) ≡ Some (place + (length o - size_of w))) × (place + (length o - size_of w) ≤ place')
    first y z =
        let a = ltb-true (length o) (size_of w + length bytes) (sym (over_none (is_over w) (ltb (length o) (size_of w + length bytes)) (is_over w') k.over y) ∙ z) in
        let b = h.count y in
        let d : length o - length from ≡ length o - (size_of w) = omega arith in (
          rw (drop-ups (length o - length from) place bytes)
              (first-up (place + (length o - length from)) (drop (length o - length from) bytes) (simp length-drop (omega arith)) ∙ ap (λ u. Some (place + u)) d),
          omega arith,
        )

    clear : is_over w ≡ false → is_over w' ≡ false → fault_of ([] ++ drop (length o - length from) (up_from place bytes)) ≡ None
    clear y z =
        let a = ltb-false (length o) (size_of w + length bytes) (sym (over_none (is_over w) (ltb (length o) (size_of w + length bytes)) (is_over w') k.over y) ∙ z) in
        let b = h.count y in
        let d : drop (length o - length from) bytes ≡ [] = drop_of_length-le bytes {i = length o - length from} (omega arith) in
        rw (drop-ups (length o - length from) place bytes, d)

-- a change
pub long-change : (ds from o p : List ℕ) (x : Writing) (w w' : Written) (long long' : Fault) (place at place' : ℕ) → Long (length o) ds from w long place → size_of w ≤ length o
    → Wrote x w w' o p → place ≤ at → at ≤ place' → long' ≡ over_at long (is_over w) (is_over w') at
    → Long (length o) (ds ++ cond x.deep (at ∷ []) []) (from ++ map (λ b. at) x.bytes) w' long' place'
long-change ds from o p x w w' long long' place at place' h within k l m e =
    long-step (length o) ds (cond x.deep (at ∷ []) []) from (map (λ b. at) x.bytes) w w' long long' place place' at h
    (over-stays (is_over w) over (is_over w') k.over) count (omega arith) later first clear e
  where
    over : Bool
    over = x.deep || ltb (length o) (size_of w + length x.bytes)

    not-over : is_over w' ≡ false → is_over w ≡ false
    not-over z = go (is_over w) (sym k.over ∙ z)
      where
        go : (a : Bool) → (a || over) ≡ false → a ≡ false
        go true y = y
        go false y = refl

    count : is_over w' ≡ false → size_of w' ≡ length (from ++ map (λ b. at) x.bytes)
    count z =
        let a = (k.within z).0 in
        let b = h.count (not-over z) in
        let d : length (map (λ b. at) x.bytes) ≡ length x.bytes = length-map x.bytes (λ b. at) in
        simp length-append (omega arith)

    later : (a : ℕ) → a ≤ place → T (none_before a (cond x.deep (at ∷ []) [] ++ drop (length o - length from) (map (λ b. at) x.bytes)))
    later a b =
        rw (drop-sames (length o - length from) at x.bytes) (go x.deep)
      where
        rest : T (none_before a (map (λ b. at) (drop (length o - length from) x.bytes)))
        rest = sames-later a at (drop (length o - length from) x.bytes) (omega arith)

        go : (d : Bool) → T (none_before a (cond d (at ∷ []) [] ++ map (λ b. at) (drop (length o - length from) x.bytes)))
        go true = T-both (leb a at) (none_before a (map (λ b. at) (drop (length o - length from) x.bytes))) (le→leb a at (omega arith)) rest
        go false = rest

    first : is_over w ≡ false → is_over w' ≡ true → (fault_of (cond x.deep (at ∷ []) [] ++ drop (length o - length from) (map (λ b. at) x.bytes)) ≡ Some at) × (at ≤ place')
    first y z =
        (rw (drop-sames (length o - length from) at x.bytes) (go x.deep (sym (over_none (is_over w) over (is_over w') k.over y) ∙ z)), m)
      where
        rest : List ℕ
        rest = drop (length o - length from) x.bytes

        go : (d : Bool) → (d || ltb (length o) (size_of w + length x.bytes)) ≡ true → fault_of (cond d (at ∷ []) [] ++ map (λ b. at) rest) ≡ Some at
        go true f = fault-first at (map (λ b. at) rest) (sames-later at at rest (omega arith))
        go false f =
            let a = ltb-true (length o) (size_of w + length x.bytes) f in
            let b = h.count y in
            first-same at rest (simp length-drop (omega arith))

    clear : is_over w ≡ false → is_over w' ≡ false → fault_of (cond x.deep (at ∷ []) [] ++ drop (length o - length from) (map (λ b. at) x.bytes)) ≡ None
    clear y z =
        rw (drop-sames (length o - length from) at x.bytes) (go x.deep (sym (over_none (is_over w) over (is_over w') k.over y) ∙ z))
      where
        rest : List ℕ
        rest = drop (length o - length from) x.bytes

        go : (d : Bool) → (d || ltb (length o) (size_of w + length x.bytes)) ≡ false → fault_of (cond d (at ∷ []) [] ++ map (λ b. at) rest) ≡ None
        go true f = absurd (true≢false f)
        go false f =
            let a = ltb-false (length o) (size_of w + length x.bytes) f in
            let b = h.count y in
            let d : rest ≡ [] = drop_of_length-le x.bytes {i = length o - length from} (omega arith) in
            rw d
