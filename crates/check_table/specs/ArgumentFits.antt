-- Arguments and entries of a table: tested by their cell, they are in range and written as they are read.
use Rattle.std.specs.Prelude.{◌≡◌, refl, Bool, ◌&&◌, List, leb, eqb, get_or}
use Rattle.std.proofs.Math.Path.{sym, subst}
use Rattle.std.proofs.Common.{ap, arith, lt→ltb, eqb→eq}
use Rattle.std.specs.Bool.{beq}
use Prim.Native.Nat.{ℕ, zero, suc, ◌+◌, ◌/◌, ◌%◌, ◌<◌}
use Rattle.std.proofs.Math.Decide.{dec_lt}
use Rattle.std.proofs.Math.Dec.{T, ltb, ltb→lt}
use Rattle.std.proofs.Math.ListN.{get_or-eq_default}
use Rattle.language.specs.Letters.{Letter, letters, indices, use_of}
use Rattle.language.specs.Letters.Letter.{A}
use Rattle.language.specs.Program.{Arg, classes, Program}
use Rattle.language.specs.Program.Arg.{letter, class, text}
use Rattle.language.specs.Values.{in_range}
use Rattle.lists.specs.ListLaws.{T-left, T-right, T-both}
use Rattle.lists.specs.Lists.{filled, bytes_equal}
use Rattle.lists.specs.TableLaws.{beq-eq, below}
use Rattle.machine.specs.WellFormed.{good_text, kept_text, kept_number, ranged}
use Rattle.layout.proofs.ArgumentLaws.{class_mask-most}
use Rattle.layout.specs.Cells.{cell}
use Rattle.layout.specs.Table.{letter_place, class_mask, arg_cell, text_by, number_by, class_by, arg_by}
use Rattle.check_parts.specs.Parts.{index_top, letter_fits, class_fits, ref_fits, arg_fits}
use Rattle.check_table.specs.RefLaws.{Kept, TextRef, NumberRef, ref-sound, ref-complete, number-sound, number-complete}

-- ---- letters by their place

abbrev letter_by : ℕ → Letter
letter_by k = get_or letters k A

abbrev letter_right : ℕ → Bool
letter_right k = eqb (letter_place (letter_by k)) k && eqb (indices (use_of (letter_by k)).var) (index_top k)

letter-own : (k : ℕ) → k < 12 → letter_place (letter_by k) ≡ k
letter-own k h =
    eqb→eq (letter_place (letter_by k)) k
    (T-left (eqb (letter_place (letter_by k)) k) (eqb (indices (use_of (letter_by k)).var) (index_top k)) (below letter_right 12 tt k h))

letter-top : (k : ℕ) → k < 12 → indices (use_of (letter_by k)).var ≡ index_top k
letter-top k h =
    eqb→eq (indices (use_of (letter_by k)).var) (index_top k)
    (T-right (eqb (letter_place (letter_by k)) k) (eqb (indices (use_of (letter_by k)).var) (index_top k)) (below letter_right 12 tt k h))

-- ---- classes by their mask

module _ (t : List ℕ) where
  abbrev class_right : ℕ → Bool
  class_right k = bytes_equal (class_by t k) (classes (class_by t k)) && eqb (class_mask (class_by t k)) k && beq (filled (class_by t k)) (ltb 0 k)

  class-rights : (k : ℕ) → k < 16 → T (class_right k)
  class-rights k h = below class_right 16 tt k h

module _ (t : List ℕ) (p : Program) (kept : Kept t p) where
  -- ---- an argument's cell x, by its kind

  module _ (x : ℕ) where
    abbrev v : ℕ
    v = x / 8

    abbrev a : Arg
    a = arg_by t (x % 8) v

    abbrev Of : Arg → Type 0
    Of b = T (ranged p b) × (arg_cell p b ≡ x)

    letter-sound : x % 8 ≡ 1 → T (letter_fits v) → Of (letter (letter_by (v / 64)) (v % 64))
    unfolding letter_fits
    letter-sound e h =
        let n : ℕ = v % 64 in
        let h₂ = T-left (ltb (v / 64) 12 && ltb 0 n) (leb n (index_top (v / 64))) h in
        let b : v / 64 < 12 = ltb→lt (v / 64) 12 (T-left (ltb (v / 64) 12) (ltb 0 n) h₂) in (
          T-both (ltb 0 n) (leb n (indices (use_of (letter_by (v / 64))).var)) (T-right (ltb (v / 64) 12) (ltb 0 n) h₂)
              (subst (λ (m : ℕ). T (leb n m)) (sym (letter-top (v / 64) b)) (T-right (ltb (v / 64) 12 && ltb 0 n) (leb n (index_top (v / 64))) h)),
          omega (arith, letter-own (v / 64) b, e),
        )

    letter-complete : x % 8 ≡ 1 → Of (letter (letter_by (v / 64)) (v % 64)) → T (letter_fits v)
    unfolding letter_fits
    letter-complete e h = go (dec_lt (v / 64) 12)
      where
        n : ℕ
        n = x / 8 % 64

        place : letter_place (letter_by (x / 8 / 64)) ≡ x / 8 / 64
        place = omega (arith, e, h.1)

        go : Dec (x / 8 / 64 < 12) → T (ltb (x / 8 / 64) 12 && ltb 0 (x / 8 % 64) && leb (x / 8 % 64) (index_top (x / 8 / 64)))
        go (yes b) =
            let top : ℕ = indices (use_of (letter_by (x / 8 / 64))).var in
            T-both (ltb (x / 8 / 64) 12 && ltb 0 (x / 8 % 64)) (leb (x / 8 % 64) (index_top (x / 8 / 64)))
            (T-both (ltb (x / 8 / 64) 12) (ltb 0 (x / 8 % 64)) (lt→ltb (x / 8 / 64) 12 b) (T-left (ltb 0 (x / 8 % 64)) (leb (x / 8 % 64) top) h.0))
            (subst (λ (m : ℕ). T (leb (x / 8 % 64) m)) (letter-top (x / 8 / 64) b) (T-right (ltb 0 (x / 8 % 64)) (leb (x / 8 % 64) top) h.0))
        go (no b) =
            let d : letter_by (x / 8 / 64) ≡ A = get_or-eq_default letters A {n = x / 8 / 64} (omega arith) in
            let z : letter_place (letter_by (x / 8 / 64)) ≡ 0 = ap letter_place d in
            absurd (omega (arith, z, place, b))

    class-sound : x % 8 ≡ 4 → T (class_fits v) → Of (class (class_by t v))
    class-sound e h =
        let cs : List ℕ = class_by t v in
        let s : Bool = bytes_equal cs (classes cs) in
        let m : Bool = eqb (class_mask cs) v in
        let f : Bool = beq (filled cs) (ltb 0 v) in
        let r = class-rights t v (ltb→lt v 16 (T-right (ltb 0 v) (ltb v 16) h)) in
        let r₂ = T-left (s && m) f r in
        let filled-too : filled cs ≡ ltb 0 v = beq-eq (filled cs) (ltb 0 v) (T-right (s && m) f r) in (
          T-both (filled cs) s (subst T (sym filled-too) (T-left (ltb 0 v) (ltb v 16) h)) (T-left s m r₂),
          omega (arith, eqb→eq (class_mask cs) v (T-right s m r₂), e),
        )

    class-complete : x % 8 ≡ 4 → Of (class (class_by t v)) → T (class_fits v)
    class-complete e h =
        let cs : List ℕ = class_by t v in
        let s : Bool = bytes_equal cs (classes cs) in
        let m : Bool = eqb (class_mask cs) v in
        let f : Bool = beq (filled cs) (ltb 0 v) in
        let b : v < 16 = omega (arith, class_mask-most cs, e, h.1) in
        let filled-too : filled cs ≡ ltb 0 v = beq-eq (filled cs) (ltb 0 v) (T-right (s && m) f (class-rights t v b)) in
        T-both (ltb 0 v) (ltb v 16) (subst T filled-too (T-left (filled cs) s h.0)) (lt→ltb v 16 b)

    text-sound : x % 8 ≡ 5 → T (ref_fits t v) → Of (text (text_by t v))
    text-sound e h =
        let r : TextRef t p kept v = ref-sound t p kept v h in
        (T-both (good_text (text_by t v)) (kept_text p (text_by t v)) r.good r.has, omega (arith, r.is, e))

    text-complete : x % 8 ≡ 5 → Of (text (text_by t v)) → T (ref_fits t v)
    text-complete e h =
        let g : Bool = good_text (text_by t v) in
        let k : Bool = kept_text p (text_by t v) in
        ref-complete t p kept v (record { good = T-left g k h.0; has = T-right g k h.0; is = omega (arith, e, h.1) })

    number-sound-of : x % 8 ≡ 6 → T (ltb v (31 + cell t 5)) → Of (Arg.number (number_by t v))
    number-sound-of e h =
        let r : NumberRef t p kept v = number-sound t p kept v (ltb→lt v (31 + cell t 5) h) in
        (T-both (in_range (number_by t v)) (kept_number p (number_by t v)) r.good r.has, omega (arith, r.is, e))

    number-complete-of : x % 8 ≡ 6 → Of (Arg.number (number_by t v)) → T (ltb v (31 + cell t 5))
    number-complete-of e h =
        let g : Bool = in_range (number_by t v) in
        let k : Bool = kept_number p (number_by t v) in
        lt→ltb v (31 + cell t 5) (number-complete t p kept v (record { good = T-left g k h.0; has = T-right g k h.0; is = omega (arith, e, h.1) }))

    -- by kind
    abbrev Sound : ℕ → Type 0
    Sound r = x % 8 ≡ r → T (arg_fits t x) → Of (arg_by t (x % 8) v)

    sound-by : (r : ℕ) → r < 8 → Sound r
    unfolding arg_fits
    sound-by zero b e = rw e (λ h. (tt, sym (eqb→eq x 0 h)))
    sound-by (suc zero) b e = rw e (letter-sound e)
    sound-by (suc (suc zero)) b e = rw e (λ h. (subst (λ (m : ℕ). T (ltb v m)) (sym kept.label_count) h, omega (arith, e)))
    sound-by (suc (suc (suc zero))) b e = rw e (λ h. (subst (λ (m : ℕ). T (ltb v m)) (sym kept.switch_count) h, omega (arith, e)))
    sound-by (suc (suc (suc (suc zero)))) b e = rw e (class-sound e)
    sound-by (suc (suc (suc (suc (suc zero))))) b e = rw e (text-sound e)
    sound-by (suc (suc (suc (suc (suc (suc zero)))))) b e = rw e (number-sound-of e)
    sound-by (suc (suc (suc (suc (suc (suc (suc zero))))))) b e = rw e (λ h. (tt, sym (eqb→eq x 0 h)))
    sound-by (suc (suc (suc (suc (suc (suc (suc (suc r)))))))) b e = absurd (omega (arith, b))

    pub arg-sound : T (arg_fits t x) → T (ranged p a) × (arg_cell p a ≡ x)
    arg-sound h = sound-by (x % 8) (omega arith) refl h

    abbrev Complete : ℕ → Type 0
    Complete r = x % 8 ≡ r → Of (arg_by t (x % 8) v) → T (arg_fits t x)

    zero_is : 0 ≡ x → T (eqb x 0)
    zero_is e = subst (λ (y : ℕ). T (eqb y 0)) e tt

    complete-by : (r : ℕ) → r < 8 → Complete r
    unfolding arg_fits
    complete-by zero b e = rw e (λ h. zero_is h.1)
    complete-by (suc zero) b e = rw e (letter-complete e)
    complete-by (suc (suc zero)) b e = rw e (λ h. subst (λ (m : ℕ). T (ltb v m)) kept.label_count h.0)
    complete-by (suc (suc (suc zero))) b e = rw e (λ h. subst (λ (m : ℕ). T (ltb v m)) kept.switch_count h.0)
    complete-by (suc (suc (suc (suc zero)))) b e = rw e (class-complete e)
    complete-by (suc (suc (suc (suc (suc zero))))) b e = rw e (text-complete e)
    complete-by (suc (suc (suc (suc (suc (suc zero)))))) b e = rw e (number-complete-of e)
    complete-by (suc (suc (suc (suc (suc (suc (suc zero))))))) b e = rw e (λ h. zero_is h.1)
    complete-by (suc (suc (suc (suc (suc (suc (suc (suc r)))))))) b e = absurd (omega (arith, b))

    pub arg-complete : T (ranged p a) → arg_cell p a ≡ x → T (arg_fits t x)
    arg-complete h k = complete-by (x % 8) (omega arith) refl (h, k)
