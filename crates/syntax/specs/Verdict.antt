-- Questions, and how they decide ("the first no decides", "the lowest counts").
use Rattle.std.specs.Prelude.{List, [], ◌∷◌, ℕ, min}

-- A question holds the places at fault: none is a yes
pub record Question : Type 0 where
  pub number : ℕ
  pub faults : List ℕ

abbrev pub ask : ℕ → List ℕ → Question
ask number faults = record { number = number; faults = faults }

-- yes, or a refusal's number and place
pub data Verdict : Type 0 where
  yes : Verdict
  refuse : ℕ → ℕ → Verdict

unfoldable pub lowest : ℕ → List ℕ → ℕ
lowest p [] = p
lowest p (q ∷ ps) = lowest (min p q) ps

-- a question before others, of which v is the verdict
unfoldable pub decide : ℕ → List ℕ → Verdict → Verdict
decide number [] v = v
decide number (p ∷ ps) v = refuse number (lowest p ps)

unfoldable pub first_no : List Question → Verdict
first_no [] = yes
first_no (q ∷ qs) = decide q.number q.faults (first_no qs)
