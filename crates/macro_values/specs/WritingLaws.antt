-- What is written in two parts, and what writes nothing.
use Rattle.std.specs.Prelude.{Some, None, ◌≡◌, refl, Bool, true, false, ◌||◌, List, [], ◌++◌, ℕ, ◌+◌, ◌≤◌, ◌<◌, ltb, length, take, drop}
use Rattle.std.proofs.Common.{sym, ap, ◌∙◌, true≢false, append_assoc, append-nil, arith, lt-ltb, le-ltb, length-append, length-take, length-drop, length-take-le, take_at}
use Rattle.std.proofs.Math.Decide.{dec_lt}
use mathlib.Core.Bool.{or-true}
use Rattle.macros.proofs.FaultLaws.{places-both}
use Rattle.macros.specs.Expansion.{Fault, Writing, places_of, followed_by, just}
use Rattle.statements.specs.Faults.{lower}
use Rattle.statements.specs.FaultLaws.{fault-both}
use Rattle.statements.specs.LowerLaws.{lower-right}
pub use Rattle.statements.specs.LowerLaws.{lower-assoc}
use Rattle.statements.specs.StatementAt.{fault_of}
use Rattle.statements.specs.Faults as told
use Rattle.std.specs.Prelude.{None, Some}
use Rattle.macro_values.specs.declared.Written.{Written}
use Rattle.macro_values.specs.Wrote.{is_over, size_of, Wrote}

pub lower-none-right : (a : told.Fault) → a ≡ lower a None
lower-none-right a = sym (lower-right a)

-- a fault in two steps
fault-then : (number : ℕ) (xs ys : List Fault) (v u r : told.Fault)
    → u ≡ lower v (fault_of (places_of number xs)) → r ≡ lower u (fault_of (places_of number ys)) → r ≡ lower v (fault_of (places_of number (xs ++ ys)))
fault-then number xs ys v u r e f =
    f
    ∙ ap (λ x. lower x (fault_of (places_of number ys))) e
    ∙ lower-assoc v (fault_of (places_of number xs)) (fault_of (places_of number ys))
    ∙ ap (lower v) (sym (ap fault_of (places-both number xs ys) ∙ fault-both (places_of number xs) (places_of number ys)))

-- whether it is over, in two steps
over-then : (v d e : Bool) (o n b m : ℕ) (u r : Bool) → u ≡ (v || (d || ltb o n)) → (u ≡ false → m ≡ n) → r ≡ (u || (e || ltb o (m + b)))
    → r ≡ (v || ((d || e) || ltb o (n + b)))
over-then true d e o n b m u r f g h = rw f at h
over-then false true e o n b m u r f g h = rw f at h
over-then false false e o n b m u r f g h = go (dec_lt o n)
  where
    go : Dec (o < n) → r ≡ (e || ltb o (n + b))
    go (yes l) =
        let w : u ≡ true = f ∙ lt-ltb o n l in
        let x : r ≡ true = rw w at h in
        x ∙ sym (ap (λ z. e || z) (lt-ltb o (n + b) (omega arith)) ∙ or-true e)
    go (no l) =
        let w : u ≡ false = f ∙ le-ltb o n (omega arith) in
        let x : r ≡ (e || ltb o (m + b)) = rw w at h in
        x ∙ ap (λ z. e || ltb o (z + b)) (g w)

over-left : (u e r : Bool) → r ≡ (u || e) → r ≡ false → u ≡ false
over-left true e r h f = sym h ∙ f
over-left false e r h f = refl

-- one part behind the other
pub wrote-both : (a b : Writing) (v u r : Written) (o q p : List ℕ) → Wrote a v u o q → Wrote b u r q p → Wrote (followed_by a b) v r o p
unfolding followed_by
wrote-both a b v u r o q p h k =
    let n = size_of v + length a.bytes in
    let e : (size_of v + length a.bytes) + length b.bytes ≡ size_of v + length (a.bytes ++ b.bytes) = simp length-append (omega arith) in
    let f : is_over r ≡ (is_over u || (b.deep || ltb (length o) (size_of u + length b.bytes))) =
    k.over ∙ ap (λ z. is_over u || (b.deep || ltb z (size_of u + length b.bytes))) h.size in
    record {
      unknown = fault-then 64 a.faults b.faults v.faults.unknown u.faults.unknown r.faults.unknown h.unknown k.unknown;
      uneven = fault-then 65 a.faults b.faults v.faults.uneven u.faults.uneven r.faults.uneven h.uneven k.uneven;
      over =
          over-then (is_over v) a.deep b.deep (length o) n (length b.bytes) (size_of u) (is_over u) (is_over r) h.over (λ z. (h.within z).0) f
          ∙ ap (λ z. is_over v || ((a.deep || b.deep) || ltb (length o) z)) e;
      size = k.size ∙ h.size;
      within = λ z. both z;
      most = omega (arith, k.most, k.size, h.size);
    }
  where
    both : is_over r ≡ false → (size_of r ≡ size_of v + length (a.bytes ++ b.bytes)) × (take (size_of r) p ≡ take (size_of v) o ++ (a.bytes ++ b.bytes))
    both z =
        let y = over-left (is_over u) (b.deep || ltb (length q) (size_of u + length b.bytes)) (is_over r) k.over z in
        let x = h.within y in
        let w = k.within z in
        let c = x.0 in
        let d = w.0 in
        (simp length-append (omega arith), w.1 ∙ ap (λ l. l ++ b.bytes) x.1 ∙ append_assoc (take (size_of v) o) a.bytes b.bytes)

-- bytes behind bytes
pub wrote-more : (a b : List ℕ) (v u r : Written) (o q p : List ℕ) → Wrote (just a) v u o q → Wrote (just b) u r q p → Wrote (just (a ++ b)) v r o p
unfolding followed_by
wrote-more a b v u r o q p h k = wrote-both (just a) (just b) v u r o q p h k

-- nothing is written
pub wrote_none : (v : Written) (o : List ℕ) → size_of v ≤ length o → Wrote (just []) v v o o
wrote_none v o l =
    record {
      unknown = lower-none-right v.faults.unknown;
      uneven = lower-none-right v.faults.uneven;
      over = last (is_over v) (ltb (length o) (size_of v + 0)) (le-ltb (length o) (size_of v + 0) (omega arith));
      size = refl;
      within = λ z. (omega arith, sym (append-nil (take (size_of v) o)));
      most = l;
    }
  where
    last : (a b : Bool) → b ≡ false → a ≡ (a || b)
    last true b e = refl
    last false b e = sym e

-- nothing more is written of what is over already
pub wrote-over : (w : Writing) (v : Written) (o : List ℕ) → size_of v ≤ length o → is_over v ≡ true → w.faults ≡ [] → Wrote w v v o o
wrote-over w v o l e f =
    record {
      unknown = lower-none-right v.faults.unknown ∙ ap (λ fs. lower v.faults.unknown (fault_of (places_of 64 fs))) (sym f);
      uneven = lower-none-right v.faults.uneven ∙ ap (λ fs. lower v.faults.uneven (fault_of (places_of 65 fs))) (sym f);
      over = e ∙ sym (ap (λ b. b || (w.deep || ltb (length o) (size_of v + length w.bytes))) e);
      size = refl;
      within = λ z. absurd (true≢false (sym e ∙ z));
      most = l;
    }

-- bytes behind those that are there, and no room for them
module _ (w o : List ℕ) (v r : Written) (e : is_over v ≡ false) (count : size_of v ≤ length o) (f : r.faults.unknown ≡ v.faults.unknown) (g : r.faults.uneven ≡ v.faults.uneven) where
  pub wrote-put : (p : List ℕ) → size_of v + length w ≤ length o → size_of r ≡ size_of v + length w → is_over r ≡ false
      → p ≡ take (size_of v) o ++ (w ++ drop (size_of v + length w) o) → Wrote (just w) v r o p
  wrote-put p l n z h =
      let m : length (take (size_of v) o) ≡ (size_of v) = length-take-le (size_of v) o count in
      let x : size_of r ≡ length (take (size_of v) o ++ w) = n ∙ simp length-append (omega arith) in
      record {
        unknown = f ∙ lower-none-right v.faults.unknown;
        uneven = g ∙ lower-none-right v.faults.uneven;
        over = z ∙ sym (ap (λ b. b || ltb (length o) (size_of v + length w)) e ∙ le-ltb (length o) (size_of v + length w) l);
        size = ap length h ∙ simp (length-append, length-take, length-drop) (omega arith);
        within = λ y. (
          n,
          ap (take (size_of r)) (h ∙ sym (append_assoc (take (size_of v) o) w (drop (size_of v + length w) o)))
              ∙ take_at (take (size_of v) o ++ w) (drop (size_of v + length w) o) (size_of r) (sym x),
        );
        most = omega (arith, n);
      }

  pub wrote-full : length o < size_of v + length w → size_of r ≤ length o → is_over r ≡ true → Wrote (just w) v r o o
  wrote-full l n z =
      record {
        unknown = f ∙ lower-none-right v.faults.unknown;
        uneven = g ∙ lower-none-right v.faults.uneven;
        over = z ∙ sym (ap (λ b. b || ltb (length o) (size_of v + length w)) e ∙ lt-ltb (length o) (size_of v + length w) l);
        size = refl;
        within = λ y. absurd (true≢false (sym z ∙ y));
        most = n;
      }

-- a count that is there, and one that is not
pub some-within : (w : Written) (n : ℕ) → w.count ≡ Some n → is_over w ≡ false
some-within w n e = rw e refl

pub some-size : (w : Written) (n : ℕ) → w.count ≡ Some n → size_of w ≡ n
some-size w n e = rw e refl

pub none-over : (w : Written) → w.count ≡ None → is_over w ≡ true
none-over w e = rw e refl
