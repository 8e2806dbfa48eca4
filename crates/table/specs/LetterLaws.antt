-- Laws of the twelve letters: what all of them pass by one computed test, and what holds of those whose bytes are in a list.
use Rattle.std.specs.Prelude.{◌≡◌, refl, Bool, true, false, cond, ◌||◌, List, [], ◌∷◌, ℕ, T, eqb, get_or}
use Rattle.std.proofs.Common.{sym, subst, arith, eqb-true}
use Rattle.packed.specs.Below.Lists.{ahead, among, keep}
use Rattle.packed.specs.Below.ListsTableLaws.{up_to, below}
use Rattle.packed.specs.Below.Characters.{is_capital}
use Rattle.packed.specs.Below.Letters as letters
use Rattle.packed.specs.Below.Letters.{letter_code}
use Rattle.packed.proofs.Below.LayoutArgumentLaws.{letter-most}
use Rattle.packed.specs.Below.LayoutBounds.{Each}
use Rattle.packed.specs.Below.Table.{letter_place}
use Rattle.table.specs.Denote.{letter_of}
use Rattle.table.specs.declared.Letter.{Letter}
use Rattle.table.specs.declared.Letter.TheVariants.{A, B, C, D, E, I, N, P, Q, T as T-letter, Y, Z}

-- a letter by its place, and by its byte
abbrev pub nth_letter : ℕ → Letter
nth_letter n = get_or (A ∷ B ∷ C ∷ D ∷ E ∷ I ∷ N ∷ P ∷ Q ∷ T-letter ∷ Y ∷ Z ∷ []) n A

abbrev pub letter_by_code : ℕ → Letter
letter_by_code b = nth_letter (ahead (λ l. eqb b (letter_code l)) letters.letters)

place-back : (l : Letter) → nth_letter (letter_place (letter_of l)) ≡ l
place-back A = refl
place-back B = refl
place-back C = refl
place-back D = refl
place-back E = refl
place-back I = refl
place-back N = refl
place-back P = refl
place-back Q = refl
place-back T-letter = refl
place-back Y = refl
place-back Z = refl

pub every-letter : (q : Letter → Bool) → T (up_to (λ n. q (nth_letter n)) 13) → (l : Letter) → T (q l)
every-letter q h l =
    subst (λ (m : Letter). T (q m)) (place-back l) (below (λ n. q (nth_letter n)) 13 h (letter_place (letter_of l)) (omega (arith, letter-most (letter_of l))))

-- R follows from what holds of each number of a list, one after the other
abbrev pub Given : (ℕ → Type 0) → List ℕ → Type 0 → Type 0
Given F [] R = R
Given F (k ∷ ks) R = F k → Given F ks R

pub given : (F : ℕ → Type 0) (ks : List ℕ) {R : Type 0} → (Each F ks → R) → Given F ks R
given F [] f = f tt
given F (k ∷ ks) f = λ h. given F ks (λ hs. f (h, hs))

-- bytes in the list that are no letters count for nothing
each-letter : (F : ℕ → Type 0) (fs : List ℕ) → Each F (keep is_capital fs) → (x : ℕ) → T (is_capital x) → T (among x fs) → F x
each-letter F [] h x u m = absurd m
each-letter F (f ∷ fs) h x u m = go (eqb x f) refl (is_capital f) refl h m (λ k. each-letter F fs k x u)
  where
    go : (a : Bool) → eqb x f ≡ a → (b : Bool) → is_capital f ≡ b → Each F (cond b (f ∷ keep is_capital fs) (keep is_capital fs)) → T (a || among x fs)
        → (Each F (keep is_capital fs) → T (among x fs) → F x) → F x
    go true e true g h m r = subst F (sym (eqb-true x f e)) h.0
    go true e false g h m r = let q : x ≡ f = eqb-true x f e in absurd (rw (q, g) at u)
    go false e true g h m r = r h.1 m
    go false e false g h m r = r h m

pub listed-letter : (F : Letter → Type 0) (fs : List ℕ)
    → Given (λ f. F (letter_by_code f)) (keep is_capital fs) ((l : Letter) → T (among (letter_code (letter_of l)) fs) → F l)
listed-letter F fs =
    given (λ f. F (letter_by_code f)) (keep is_capital fs)
    (λ h l m. subst F (place-back l)
    (each-letter (λ f. F (letter_by_code f)) fs h (letter_code (letter_of l)) (every-letter (λ k. is_capital (letter_code (letter_of k))) tt l) m))
