-- An indexed letter by its place and its index.
use Rattle.std.proofs.Common.{◌≡◌, refl, ap, ◌∙◌, cond, ℕ, ◌/◌, ◌%◌, ◌≤◌}
use Rattle.std.specs.Prelude.{ltb, leb, ◌&&◌, ◌^◌, false}
use borrow.Author.Tests.{lt-ltb, le-ltb}
use Rattle.forms.specs.KindLaws.{place-small}
use Rattle.language.specs.Letters.{indices, use_of}
use Rattle.layout.specs.Table.{letter_place}
use Rattle.table.specs.Denote.{letter_of}
use Rattle.table.specs.declared.Letter.{Letter}
use Rattle.check_parts.specs.Parts.{index_top, letter_fits}

-- the number of its indices, and whether there are more
fits-by : (l : Letter) (i : ℕ) → (ltb 0 i && leb i (indices (use_of (letter_of l)).var)) ≡ (ltb (letter_place (letter_of l)) 12 && ltb 0 i && leb i (index_top (letter_place (letter_of l))))
fits-by Letter.A i = refl
fits-by Letter.B i = refl
fits-by Letter.C i = refl
fits-by Letter.D i = refl
fits-by Letter.E i = refl
fits-by Letter.I i = refl
fits-by Letter.N i = refl
fits-by Letter.P i = refl
fits-by Letter.Q i = refl
fits-by Letter.T i = refl
fits-by Letter.Y i = refl
fits-by Letter.Z i = refl

pub letter_in : (v : ℕ) (l : Letter) → letter_place (letter_of l) ≡ v / 64 → (ltb 0 (v % 64) && leb (v % 64) (indices (use_of (letter_of l)).var)) ≡ letter_fits v
unfolding letter_fits
letter_in v l e = rw (← e) (fits-by l (v % 64))

pub letter_none : (v : ℕ) → 12 ≤ v / 64 → false ≡ letter_fits v
unfolding letter_fits
letter_none v h = rw (le-ltb (v / 64) 12 h)

-- the set of the letter at a place, and of none
pub form_in : {n b : ℕ} (l : Letter) → letter_place (letter_of l) ≡ n → b ≡ 2 ^ letter_place (letter_of l) → b ≡ cond (ltb n 12) (2 ^ n) 0
form_in {n} l e h = rw (lt-ltb n 12 (rw e at (place-small (letter_of l)))) (h ∙ ap (λ k. 2 ^ k) e)

pub form_none : {n : ℕ} → 12 ≤ n → 0 ≡ cond (ltb n 12) (2 ^ n) 0
form_none {n} h = rw (le-ltb n 12 h)
