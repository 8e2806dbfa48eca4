-- A text without some of its bytes, tried at the front of its row.
use mathlib.Core.Path.{◌≡◌, refl, ap, sym, ◌∙◌}
use mathlib.Core.Bool.{Bool, true, false, cond}
use mathlib.Core.List.{List, ◌++◌, append_assoc}
use Prim.Native.Nat.{ℕ, ◌+◌, ◌-◌}
use native.Mathlib.Omega.{arith}
use lib.Dec.{eqb}
use lib.ListN.{length, take, drop, length-append, length-drop}
use lib.Seq.{length-take-le, take_all, take_at}
use borrow.Author.Tests.{ne_eqb}
use Rattle.calls.specs.Calls.{load_number}
use Rattle.macro_loading.specs.Below.Told.{Loaded, loaded_number}
use Rattle.macro_loading.specs.Below.ToldLaws.{number-told}
use Rattle.macro_loading.specs.Loading.{Loads}
use Rattle.macros.specs.Load.{load_in}
use Rattle.std.specs.Prelude.{Ok, Err}
use Rattle.shortening.specs.Trying.{Exchangeable, exchanged, cut, cut_number, refused_with, Cuttable, Tried}
use Rattle.shortening.proofs.Exchanging.{exchanged-back}

pub by-number : (l : Loaded) {number : ℕ} → (number ≡ 80 → ⊥) → refused_with number l ≡ eqb (loaded_number l) number
by-number (Ok u) {number} h = sym (ne_eqb 80 number (λ q. h (sym q)))
by-number (Err r) h = refl

module _ {p : List ℕ} {from to number table : ℕ} (h : Cuttable p from to number table) where
  abbrev n : ℕ
  n = length p

  abbrev size : ℕ
  size = from + (n - to)

  all_of : take n p ≡ p
  all_of = take_all n p (omega arith)

  length_cut : length (cut p from to) ≡ size
  length_cut = length-append (take from p) (drop to p) ∙ omega (arith, length-take-le from p (omega (arith, h.some, h.upto)), length-drop to p)

  pub exchangeable : Exchangeable p from to n
  exchangeable = record { first = h.some; second = h.upto; within = omega arith }

  module _ {d₁ : List ℕ} (w : d₁ ≡ exchanged p from to n) where
    -- the cut text stands in front
    in_front : take size d₁ ≡ cut p from to
    in_front =
        let rest = drop from (take to p) ++ drop n p in
        ap (take size) (w ∙ ap (λ (l : List ℕ). take from p ++ (drop to l ++ rest)) all_of ∙ sym (append_assoc (take from p) (drop to p) rest))
        ∙ take_at (cut p from to) rest size length_cut

    module _ {c c' : List ℕ} {l : Loaded} (long : length c ≡ table) (k : Loads (take size d₁) c l c') where
      number_is : loaded_number l ≡ cut_number p from to
      number_is =
          number-told l (load_in (length c) (take size d₁)) k.is ∙ ap (λ (x : List ℕ). load_number (load_in (length c) x)) in_front
          ∙ ap (λ (m : ℕ). load_number (load_in m (cut p from to))) (long ∙ h.tryable.long)

      stays-by : {t : Bool} → refused_with number l ≡ t → eqb (cut_number p from to) number ≡ t
      stays-by z = ap (λ (m : ℕ). eqb m number) (sym number_is) ∙ sym (by-number l h.tryable.refused) ∙ z

      pub dropped : refused_with number l ≡ true → Tried p from to number d₁ size
      dropped z =
          let b = stays-by z in
          record {
            is = in_front ∙ ap (λ (x : Bool). cond x (cut p from to) p) (sym b);
            size = sym length_cut ∙ ap (λ (x : Bool). length (cond x (cut p from to) p)) (sym b);
          }

      -- and is put back
      pub not-dropped : refused_with number l ≡ false → {d₂ : List ℕ} → d₂ ≡ exchanged d₁ from size n → Tried p from to number d₂ n
      not-dropped z {d₂} v =
          let b = stays-by z in
          let e : d₂ ≡ p = v ∙ ap (λ (x : List ℕ). exchanged x from size n) w ∙ exchanged-back exchangeable refl in
          record {
            is = ap (take n) e ∙ all_of ∙ ap (λ (x : Bool). cond x (cut p from to) p) (sym b);
            size = ap (λ (x : Bool). length (cond x (cut p from to) p)) (sym b);
          }

    pub exchangeable-back : length d₁ ≡ n → Exchangeable d₁ from size n
    exchangeable-back e = record { first = omega arith; second = omega (arith, h.some, h.upto); within = omega (arith, e) }
