-- Sets of forms: what two sets share, and that an item shares with the forms of a place just the form that it is read by.
use Rattle.std.specs.Prelude.{◌≡◌, refl, Bool, true, false, cond, ◌&&◌, ◌||◌, ℕ, zero, suc, pred, ◌+◌, ◌*◌, ◌/◌, ◌%◌, min, T, get_or, drop}
use Rattle.std.proofs.Math.Path.{ap}
use Rattle.std.proofs.Common.{sym, ◌∙◌, subst, lit<, eqb-true}
use Rattle.std.proofs.Math.Bool.{not}
use Rattle.std.specs.Bool.{beq}
use mathlib.Core.List.{List, [], ◌∷◌, map}
use Rattle.std.specs.Int.Bits.{bit_and, and_step, and_zero_l, and_zero_r}
use Rattle.std.proofs.Math.Dec.{eqb, eqb→eq}
use Rattle.std.proofs.Math.Pow.{high, low}
use Rattle.language.specs.Instructions.{operation, operators}
use Rattle.language.specs.Program.{Op}
use Rattle.words.proofs.Below.LayoutArgumentLaws.{operator-back}
use Rattle.lists.specs.ListLaws.{T-left, T-right, all_head, all_tail, all-at}
use Rattle.lists.specs.Lists.{all, any, head_or, keep, among}
use Rattle.lists.specs.TableLaws.{beq-eq}
use Rattle.words.specs.Below.ArgumentForms.{alternatives}
use Rattle.forms.specs.Forms.{forms, bits, mask, set_of, listed, only}
use Rattle.forms.specs.Kinds.{kinds, kind_reads, OfKind}

abbrev both : List Bool → List Bool → List Bool
both [] bs = []
both (a ∷ cs) [] = []
both (a ∷ cs) (b ∷ bs) = (a && b) ∷ both cs bs

half : (n : ℕ) (b : Bool) → (n * 2 + cond b 1 0) / 2 ≡ n
half n true = high n 1 (lit< tt)
half n false = high n 1 (lit< tt)

odd : (n : ℕ) (b : Bool) → (n * 2 + cond b 1 0) % 2 ≡ cond b 1 0
odd n true = low n 1 (lit< tt)
odd n false = low n 1 (lit< tt)

lower : (a b : Bool) → min (cond a 1 0) (cond b 1 0) ≡ cond (a && b) 1 0
lower true true = refl
lower true false = refl
lower false true = refl
lower false false = refl

and-bits : (cs bs : List Bool) → bit_and (bits cs) (bits bs) ≡ bits (both cs bs)
and-bits [] bs = and_zero_l (bits bs)
and-bits (a ∷ cs) [] = and_zero_r (bits (a ∷ cs))
and-bits (a ∷ cs) (b ∷ bs) =
    and_step (bits (a ∷ cs)) (bits (b ∷ bs))
    ∙ rw (half (bits cs) a, half (bits bs) b, odd (bits cs) a, odd (bits bs) b, and-bits cs bs, lower a b)

both-map : (p q : ℕ → Bool) (xs : List ℕ) → both (map p xs) (map q xs) ≡ map (λ x. p x && q x) xs
both-map p q [] = refl
both-map p q (x ∷ xs) = ap (◌∷◌ (p x && q x)) (both-map p q xs)

-- what passes both tests
pub and_mask : (p q : ℕ → Bool) → bit_and (mask p) (mask q) ≡ mask (λ f. p f && q f)
and_mask p q = and-bits (map p forms) (map q forms) ∙ ap bits (both-map p q forms)

-- the same forms of a row pass two tests that agree on all forms
agree : (p q : ℕ → Bool) (xs : List ℕ) → map p xs ≡ map q xs → (f : ℕ) → T (among f xs) → p f ≡ q f
agree p q [] e f h = absurd h
agree p q (x ∷ xs) e f h = go (eqb f x) refl h (agree p q xs (ap (drop 1) e) f)
  where
    go : (t : Bool) → eqb f x ≡ t → T (t || among f xs) → (T (among f xs) → p f ≡ q f) → p f ≡ q f
    go true h k r =
        let y : f ≡ x = eqb-true f x h in
        let z : p x ≡ q x = ap (head_or false) e in
        rw y z
    go false h k r = r k

module _ (p q : ℕ → Bool) (e : map p forms ≡ map q forms) where
  keep-agree : (fs : List ℕ) → T (all (λ f. among f forms) fs) → keep p fs ≡ keep q fs
  keep-agree [] h = refl
  keep-agree (f ∷ fs) h =
      rw (agree p q forms e f (all_head (λ f. among f forms) f fs h), keep-agree fs (all_tail (λ f. among f forms) f fs h))

  any-agree : (fs : List ℕ) → T (all (λ f. among f forms) fs) → any p fs ≡ any q fs
  any-agree [] h = refl
  any-agree (f ∷ fs) h =
      rw (agree p q forms e f (all_head (λ f. among f forms) f fs h), any-agree fs (all_tail (λ f. among f forms) f fs h))

-- A row of forms that an item of each kind shares at most one form with, computed for every place of every instruction
single : List ℕ → List ℕ → Bool
single fs r =
    let s : ℕ = mask (λ f. among f r && among f fs) in
    eqb (only s) (head_or 45 (keep (λ f. among f r) fs)) && beq (eqb s 0) (not (any (λ f. among f r) fs))

sorted : List ℕ → Bool
sorted fs = all (λ f. among f forms) fs && all (single fs) kinds

all-get : {X : Type 0} (p : X → Bool) (xs : List X) → T (all p xs) → (d : X) → T (p d) → (i : ℕ) → T (p (get_or xs i d))
all-get p [] h d k i = k
all-get p (x ∷ xs) h d k zero = all_head p x xs h
all-get p (x ∷ xs) h d k (suc i) = all-get p xs (all_tail p x xs h) d k i

-- what passes for all operators passes for one
pub by-operator : (p : Op → Bool) → T (all p operators) → (o : Op) → T (p o)
by-operator p h o =
    subst (λ x. T (p x)) (operator-back o) (all-get p operators h Op.STOP (all-at p operators h 40 Op.STOP (lit< tt)) (pred (operation o).number))

table-sorted : (o : Op) → T (all (all sorted) (alternatives o))
unfolding sorted single only
table-sorted o = by-operator (λ x. all (all sorted) (alternatives x)) tt o

listed-sorted : (o : Op) (list place : ℕ) → T (sorted (listed o list place))
unfolding sorted single only
listed-sorted o list place = all-get sorted (get_or (alternatives o) list []) (all-get (all sorted) (alternatives o) (table-sorted o) [] tt list) [] tt place

-- what an item that reads as p shares with the forms of a place
module _ (p : ℕ → Bool) (k : ℕ) (h : OfKind p k) (o : Op) (list place : ℕ) where
  abbrev here : List ℕ
  here = listed o list place

  abbrev row : List ℕ
  row = get_or kinds k []

  abbrev agreed : ℕ
  agreed = mask (λ f. among f row && among f here)

  shares : bit_and (mask p) (set_of here) ≡ agreed
  shares = ap (λ (bs : List Bool). bit_and (bits bs) (set_of here)) h.forms_read ∙ and_mask (kind_reads k) (λ f. among f here)

  known-forms : T (all (λ f. among f forms) here)
  unfolding sorted
  known-forms = T-left (all (λ f. among f forms) here) (all (single here) kinds) (listed-sorted o list place)

  at_most_one : T (single here row)
  unfolding sorted
  at_most_one =
      all-at (single here) kinds (T-right (all (λ f. among f forms) here) (all (single here) kinds) (listed-sorted o list place)) k [] h.small

  pub shared-form : only (bit_and (mask p) (set_of here)) ≡ head_or 45 (keep p here)
  unfolding single
  shared-form =
      ap only shares
      ∙ eqb→eq (only agreed) (head_or 45 (keep (kind_reads k) here)) (T-left (eqb (only agreed) (head_or 45 (keep (kind_reads k) here))) (beq (eqb agreed 0) (not (any (kind_reads k) here))) at_most_one)
      ∙ ap (head_or 45) (sym (keep-agree p (kind_reads k) h.forms_read here known-forms))

  pub shared-some : eqb (bit_and (mask p) (set_of here)) 0 ≡ not (any p here)
  unfolding single
  shared-some =
      ap (λ (s : ℕ). eqb s 0) shares
      ∙ beq-eq (eqb agreed 0) (not (any (kind_reads k) here)) (T-right (eqb (only agreed) (head_or 45 (keep (kind_reads k) here))) (beq (eqb agreed 0) (not (any (kind_reads k) here))) at_most_one)
      ∙ ap not (sym (any-agree p (kind_reads k) h.forms_read here known-forms))
