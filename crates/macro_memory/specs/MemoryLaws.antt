-- What was written changes nothing the next time; what changes nothing never does later; and nothing is remembered in free slots.
use Rattle.std.specs.Prelude.{◌≡◌, refl, Bool, true, false, ◌||◌, List, [], ◌∷◌, ◌++◌, ℕ, zero, suc, ◌+◌, ◌≤◌, ◌<◌, ltb, length, take, map, get_or, replicate}
use Rattle.std.proofs.Common.{sym, ap, ◌∙◌, true≢false, append-nil, arith, le-ltb}
use Rattle.macros.specs.Expansion.{Writing, filled_in, places_of}
use Rattle.statements.specs.Faults.{lower}
use Rattle.statements.specs.StatementAt.{fault_of}
use Rattle.statements.specs.Faults as told
use Rattle.std.specs.Prelude.{None, Some}
use Rattle.macro_code.specs.Code.{arguments_in, call_in}
use Rattle.macro_values.specs.declared.Written.{Written}
use Rattle.macro_values.specs.WritingLaws.{lower-assoc}
use Rattle.macro_values.specs.Wrote.{is_over, size_of, Wrote}
use Rattle.macro_memory.specs.Memory.{slot_at, Absorbed, slot_writes, Remembers}
use Rattle.macro_memory.specs.declared.Slot.{Slot}

lower-twice : (a : told.Fault) → lower a a ≡ a
lower-twice None = refl
lower-twice (Some p) = ap Some (omega arith)

lower-other : (a b : told.Fault) → lower a b ≡ lower b a
lower-other None None = refl
lower-other None (Some q) = refl
lower-other (Some p) None = refl
lower-other (Some p) (Some q) = ap Some (omega arith)

fault-again : (v r x : told.Fault) → r ≡ lower v x → lower r x ≡ r
fault-again v r x e = ap (λ y. lower y x) e ∙ lower-assoc v x x ∙ ap (lower v) (lower-twice x) ∙ sym e

fault-stays : (v r x y : told.Fault) → lower v x ≡ v → r ≡ lower v y → lower r x ≡ r
fault-stays v r x y e f =
    ap (λ z. lower z x) f ∙ lower-assoc v y x ∙ ap (lower v) (lower-other y x) ∙ sym (lower-assoc v x y) ∙ ap (λ z. lower z y) e ∙ sym f

pub or_left : (a b r : Bool) → r ≡ (a || b) → r ≡ false → a ≡ false
or_left true b r e f = sym e ∙ f
or_left false b r e f = refl

or_right : (a b r : Bool) → r ≡ (a || b) → r ≡ false → b ≡ false
or_right true b r e f = absurd (true≢false (sym e ∙ f))
or_right false b r e f = sym e ∙ f

no_bytes : (w : List ℕ) (p q : ℕ) → q ≡ p + length w → q ≡ p → w ≡ []
no_bytes [] p q e f = refl
no_bytes (x ∷ w) p q e f = absurd (omega (arith, e, f))

-- what left the row as it was, or over
pub absorbed-after : (x : Writing) (v r : Written) (o p : List ℕ) → Wrote x v r o p → (is_over r ≡ false → size_of r ≡ size_of v) → Absorbed x r
absorbed-after x v r o p h k =
    record {
      unknown = fault-again v.faults.unknown r.faults.unknown (fault_of (places_of 64 x.faults)) h.unknown;
      uneven = fault-again v.faults.uneven r.faults.uneven (fault_of (places_of 65 x.faults)) h.uneven;
      shallow = λ z. or_left x.deep (ltb (length o) (size_of v + length x.bytes)) false (sym (or_right (is_over v) (x.deep || ltb (length o) (size_of v + length x.bytes)) (is_over r) h.over z)) refl;
      empty = λ z. no_bytes x.bytes (size_of v) (size_of r) (h.within z).0 (k z);
    }

-- it stays so
pub absorbed-stays : (x y : Writing) (v r : Written) (o p : List ℕ) → Absorbed x v → Wrote y v r o p → Absorbed x r
absorbed-stays x y v r o p a h =
    let over : is_over r ≡ false → is_over v ≡ false = λ z. or_left (is_over v) (y.deep || ltb (length o) (size_of v + length y.bytes)) (is_over r) h.over z in
    record {
      unknown = fault-stays v.faults.unknown r.faults.unknown (fault_of (places_of 64 x.faults)) (fault_of (places_of 64 y.faults)) a.unknown h.unknown;
      uneven = fault-stays v.faults.uneven r.faults.uneven (fault_of (places_of 65 x.faults)) (fault_of (places_of 65 y.faults)) a.uneven h.uneven;
      shallow = λ z. a.shallow (over z);
      empty = λ z. a.empty (over z);
    }

-- it need not be written
pub absorbed-writes : (x : Writing) (v : Written) (o : List ℕ) → Absorbed x v → size_of v ≤ length o → Wrote x v v o o
absorbed-writes x v o a l =
    record {
      unknown = sym a.unknown;
      uneven = sym a.uneven;
      over = over (is_over v) refl;
      size = refl;
      within = λ z. (
        none x.bytes (a.empty z),
        sym (ap (λ w. take (size_of v) o ++ w) (a.empty z) ∙ append-nil (take (size_of v) o)),
      );
      most = l;
    }
  where
    none : (w : List ℕ) → w ≡ [] → size_of v ≡ size_of v + length w
    none w e = rw e (omega arith)

    over : (b : Bool) → is_over v ≡ b → is_over v ≡ (is_over v || (x.deep || ltb (length o) (size_of v + length x.bytes)))
    over true e = rw e
    over false e =
        let d = a.shallow e in
        let w = a.empty e in
        rw (e, d, w) (sym (le-ltb (length o) (size_of v + 0) (omega arith)))

-- what is remembered, behind more that is written
pub remembers-stays : (s c f : List ℕ) (n : ℕ) (slots : List Slot) (y : Writing) (v r : Written) (o p : List ℕ) → Remembers s c f n slots v → Wrote y v r o p → Remembers s c f n slots r
remembers-stays s c f n slots y v r o p h w =
    record { absorbed = λ k z. absorbed-stays (slot_writes s c f n (slot_at slots k)) y v r o p (h.absorbed k z) w }

-- nothing is remembered in slots that are free
pub remembers-none : (s c f : List ℕ) (n m : ℕ) (x : Slot) (v : Written) → x.left ≡ 0 → Remembers s c f n (replicate m x) v
remembers-none s c f n m x v e = record { absorbed = λ k z. absurd (z (free m k)) }
  where
    free : (m k : ℕ) → (slot_at (replicate m x) k).left ≡ 0
    free zero k = refl
    free (suc m) zero = e
    free (suc m) (suc k) = free m k

-- only the calls around are looked at
pub arguments-like : (s c calls others : List ℕ) (d : ℕ) → ((j : ℕ) → j < d → get_or others j 0 ≡ get_or calls j 0) → arguments_in s c others d ≡ arguments_in s c calls d
unfolding arguments_in
arguments-like s c calls others zero e = refl
arguments-like s c calls others (suc d) e =
    let a : arguments_in s c others d ≡ arguments_in s c calls d = arguments-like s c calls others d (λ j l. e j (omega (arith, l))) in
    let g : get_or others d 0 ≡ get_or calls d 0 = e d (omega arith) in
    λ i. map (filled_in (a i)) (call_in s c (g i)).args
