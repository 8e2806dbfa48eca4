-- Laws of the twelve letters: a letter by its byte, and what all of them pass by one computed test.
use Rattle.std.specs.Prelude.{◌≡◌, refl, Bool, List, [], ◌∷◌, T, eqb}
use Rattle.std.proofs.Common.{subst}
use Rattle.language.specs.Letters.{Letter, letters, letter_code}
use Rattle.language.specs.Letters.Letter.{A, B, C, D, E, I, N, P, Q, T as letter-T, Y, Z}
use Rattle.language.specs.Below.Lists.{all, head_or, keep}
use Rattle.language.specs.Below.ListLaws.{all_head, all_keep}
use Rattle.syntax.specs.ArgumentForms.{letter_of}

pub letter_of-code : (l : Letter) → letter_of (letter_code l) ≡ l
letter_of-code A = refl
letter_of-code B = refl
letter_of-code C = refl
letter_of-code D = refl
letter_of-code E = refl
letter_of-code I = refl
letter_of-code N = refl
letter_of-code P = refl
letter_of-code Q = refl
letter_of-code letter-T = refl
letter_of-code Y = refl
letter_of-code Z = refl

pub every-letter : (q : Letter → Bool) → T (all q letters) → (l : Letter) → T (q l)
every-letter q h l =
    subst (λ (m : Letter). T (q m)) (letter_of-code l) (first (keep (λ m. eqb (letter_code l) (letter_code m)) letters) (all_keep q (λ m. eqb (letter_code l) (letter_code m)) letters h))
  where
    first : (ms : List Letter) → T (all q ms) → T (q (head_or A ms))
    first [] k = all_head q A (B ∷ C ∷ D ∷ E ∷ I ∷ N ∷ P ∷ Q ∷ letter-T ∷ Y ∷ Z ∷ []) h
    first (m ∷ ms) k = all_head q m ms k
