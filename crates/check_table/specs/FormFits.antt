-- The forms of an instruction's arguments: sets of one form each, and the instruction's lists.
use Rattle.std.specs.Prelude.{◌≡◌, Bool, cond, ◌&&◌, ◌||◌, List, [], ◌∷◌, map, leb, length, get_or}
use Rattle.std.proofs.Math.Path.{refl, ap}
use Rattle.std.proofs.Common.{sym, ◌∙◌, arith, eqb→eq, eqb-true, ne_eqb, lt-ltb}
use Rattle.std.proofs.Math.Bool.{true, false, not, not-not, or-false}
use Prim.Native.Nat.{ℕ, zero, suc, ◌+◌, ◌*◌, ◌/◌, ◌%◌, ◌^◌, ◌≤◌, ◌<◌}
use Rattle.std.specs.Int.Bits.{bit_and}
use Rattle.std.proofs.Math.Dec.{T, ltb, eqb, ltb→lt}
use Rattle.std.proofs.lemmas.List.{length-map}
use lib.Ieee.Bits.{is_true}
use Rattle.language.specs.Instructions.{Forms, operation}
use Rattle.language.specs.Letters.{letters, letter_code}
use Rattle.language.specs.Letters.Letter.{A}
use Rattle.language.specs.Program.{Op, Instr, Program, Switch, no_switch, switch_at}
use Rattle.lists.specs.ListLaws.{T-left, T-right}
use Rattle.lists.specs.Lists.{any, among}
use Rattle.lists.specs.Quoted.{bytes}
use Rattle.lists.specs.TableLaws.{below}
use Rattle.machine.specs.WellFormed.{form, listed}
use Rattle.syntax.specs.ArgumentForms.{alternatives}
use Rattle.forms.specs.Forms.{forms, bits, mask, listed as listed_at}
use Rattle.forms.specs.ReadingLaws.{set-listed, two-lists}
use Rattle.forms.specs.SetLaws.{and_mask}
use Rattle.layout.proofs.CellLaws.{get_d-tab}
use Rattle.layout.specs.Cells.{cell}
use Rattle.layout.specs.Table.{arg_by, switch_in}
use Rattle.layout.specs.Places as layout
use Rattle.check_parts.specs.Parts.{letter_fits, index_top, arg_fits, form_bit, takes, lists_take}
use Rattle.check_table.specs.RefLaws.{Kept}

-- ---- a set is empty where no form passes

bits_none : (p : ℕ → Bool) (xs : List ℕ) → eqb (bits (map p xs)) 0 ≡ not (any p xs)
bits_none p [] = refl
bits_none p (x ∷ xs) = go (p x) (bits_none p xs)
  where
    go : (b : Bool) → eqb (bits (map p xs)) 0 ≡ not (any p xs) → eqb (bits (map p xs) * 2 + cond b 1 0) 0 ≡ not (b || any p xs)
    go true h = ne_eqb (bits (map p xs) * 2 + 1) 0 (λ e. omega (arith, e))
    go false h = doubled (bits (map p xs)) ∙ h
      where
        doubled : (n : ℕ) → eqb (n * 2 + 0) 0 ≡ eqb n 0
        doubled zero = refl
        doubled (suc n) = ne_eqb (suc n * 2 + 0) 0 (λ e. omega (arith, e)) ∙ sym (ne_eqb (suc n) 0 (λ e. omega (arith, e)))

any-one : (f : ℕ) (q : ℕ → Bool) (xs : List ℕ) → any (λ g. eqb f g && q g) xs ≡ (among f xs && q f)
any-one f q [] = refl
any-one f q (x ∷ xs) = go (eqb f x) refl (any-one f q xs)
  where
    meet : (a b : Bool) → (b || (a && b)) ≡ b
    meet true true = refl
    meet true false = refl
    meet false true = refl
    meet false false = refl

    go : (b : Bool) → eqb f x ≡ b → any (λ g. eqb f g && q g) xs ≡ (among f xs && q f) → ((b && q x) || any (λ g. eqb f g && q g) xs) ≡ ((b || among f xs) && q f)
    go true e h =
        let z : x ≡ f = sym (eqb-true f x e) in
        rw (z, h) (meet (among f xs) (q f))
    go false e h = h

-- the set of one form, and what a list has at a place
module _ (o : Op) (list place f : ℕ) (some : T (among f forms)) where
  abbrev here : List ℕ
  here = listed_at o list place

  pub takes_one : takes (mask (eqb f)) (operation o).number list place ≡ among f here
  unfolding takes
  takes_one =
      ap (λ (s : ℕ). not (eqb (bit_and (mask (eqb f)) s) 0)) (set-listed o list place)
      ∙ ap (λ (s : ℕ). not (eqb s 0)) (and_mask (eqb f) (λ g. among g here))
      ∙ ap not (bits_none (λ g. eqb f g && among g here) forms)
      ∙ not-not (any (λ g. eqb f g && among g here) forms)
      ∙ any-one f (λ g. among g here) forms
      ∙ ap (λ (b : Bool). b && among f here) (is_true (among f forms) some)

-- ---- one list or the other

abbrev places : Forms → List (List ℕ)
places f = bytes f.0 ∷ bytes f.1 ∷ bytes f.2 ∷ []

module _ (x y z : ℕ) where
  abbrev within : Forms → Bool
  within f = among x (bytes f.0) && among y (bytes f.1) && among z (bytes f.2)

  abbrev within_at : List (List (List ℕ)) → ℕ → Bool
  within_at fs n = among x (get_or (get_or fs n []) 0 []) && among y (get_or (get_or fs n []) 1 []) && among z (get_or (get_or fs n []) 2 [])

  two-places : (fs : List Forms) → length fs ≤ 2 → (within_at (map places fs) 0 || within_at (map places fs) 1) ≡ any within fs
  two-places [] h = refl
  two-places (f ∷ []) h = refl
  two-places (f ∷ g ∷ []) h = ap (λ (b : Bool). within f || b) (sym (or-false (within g)))
  two-places (f ∷ g ∷ k ∷ fs) h = absurd (omega (arith, h))

  pub lists-alike : (o : Op) → (within_at (alternatives o) 0 || within_at (alternatives o) 1) ≡ any within (operation o).forms
  lists-alike o = two-places (operation o).forms (omega (arith, two-lists o, length-map (operation o).forms places))

module _ (p : Program) (i : Instr) (a b d : ℕ)
    (fa : T (among (form p i.first) forms)) (fb : T (among (form p i.second) forms)) (fd : T (among (form p i.third) forms))
    (ea : a ≡ mask (eqb (form p i.first))) (eb : b ≡ mask (eqb (form p i.second))) (ed : d ≡ mask (eqb (form p i.third))) where
  pub listed-alike : lists_take (operation i.op).number a b d ≡ listed p i
  unfolding lists_take listed
  listed-alike =
      rw (ea, eb, ed, takes_one i.op 0 0 (form p i.first) fa, takes_one i.op 0 1 (form p i.second) fb, takes_one i.op 0 2 (form p i.third) fd, takes_one i.op 1 0 (form p i.first) fa, takes_one i.op 1 1 (form p i.second) fb, takes_one i.op 1 2 (form p i.third) fd)
      (lists-alike (form p i.first) (form p i.second) (form p i.third) i.op)

-- ---- the form of an argument that is in range

abbrev letter_right : ℕ → Bool
letter_right k = eqb (2 ^ k) (mask (eqb (letter_code (get_or letters k A)))) && among (letter_code (get_or letters k A)) forms

pub record Formed (b f : ℕ) : Type 0 where
  pub is : b ≡ mask (eqb f)
  pub some : T (among f forms)

letter-formed : (k : ℕ) → k < 12 → Formed (2 ^ k) (letter_code (get_or letters k A))
letter-formed k h =
    let c : ℕ = letter_code (get_or letters k A) in
    let r = below letter_right 12 tt k h in
    record { is = eqb→eq (2 ^ k) (mask (eqb c)) (T-left (eqb (2 ^ k) (mask (eqb c))) (among c forms) r); some = T-right (eqb (2 ^ k) (mask (eqb c))) (among c forms) r }

switch-formed : (b : Bool) → Formed (cond b 65536 131072) (cond b 119 120)
switch-formed true = record { is = refl; some = tt }
switch-formed false = record { is = refl; some = tt }

module _ (t : List ℕ) (p : Program) (kept : Kept t p) (x : ℕ) where
  abbrev v : ℕ
  v = x / 8

  switch-is : v < cell t 2 → switch_at p v ≡ switch_in t v
  switch-is h = ap (λ (ws : List Switch). get_or ws v no_switch) kept.switches_are ∙ get_d-tab (cell t 2) (switch_in t) v no_switch h

  abbrev Stated : ℕ → Type 0
  Stated r = x % 8 ≡ r → T (arg_fits t x) → Formed (form_bit t x) (form p (arg_by t (x % 8) v))

  letter-first : T (letter_fits v) → v / 64 < 12
  unfolding letter_fits
  letter-first h =
      ltb→lt (v / 64) 12 (T-left (ltb (v / 64) 12) (ltb 0 (v % 64)) (T-left (ltb (v / 64) 12 && ltb 0 (v % 64)) (leb (v % 64) (index_top (v / 64))) h))

  stated : (r : ℕ) → r < 8 → Stated r
  unfolding arg_fits form_bit
  stated zero b e = rw e (λ h. record { is = refl; some = tt })
  stated (suc zero) b e = rw e (λ h. rw (lt-ltb (v / 64) 12 (letter-first h)) (letter-formed (v / 64) (letter-first h)))
  stated (suc (suc zero)) b e = rw e (λ h. record { is = refl; some = tt })
  stated (suc (suc (suc zero))) b e = rw e (λ h. rw (switch-is (ltb→lt v (cell t 2) h)) (switch-formed (eqb (cell t (layout.first_switch + v) % 2) 1)))
  stated (suc (suc (suc (suc zero)))) b e = rw e (λ h. record { is = refl; some = tt })
  stated (suc (suc (suc (suc (suc zero))))) b e = rw e (λ h. record { is = refl; some = tt })
  stated (suc (suc (suc (suc (suc (suc zero)))))) b e = rw e (λ h. record { is = refl; some = tt })
  stated (suc (suc (suc (suc (suc (suc (suc zero))))))) b e = rw e (λ h. record { is = refl; some = tt })
  stated (suc (suc (suc (suc (suc (suc (suc (suc r)))))))) b e = absurd (omega (arith, b))

  pub formed : T (arg_fits t x) → Formed (form_bit t x) (form p (arg_by t (x % 8) v))
  formed h = stated (x % 8) (omega arith) refl h
