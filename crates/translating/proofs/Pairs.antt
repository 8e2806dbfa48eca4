-- A word in the other edition, by the pairs and by places: the same.
use mathlib.Core.Path.{◌≡◌, refl, ap, ◌∙◌}
use mathlib.Core.Bool.{Bool, true, false}
use mathlib.Core.List.{List}
use Prim.Native.Nat.{ℕ, ◌<◌}
use native.Mathlib.Omega.{arith}
use lib.Dec.{T}
use Rattle.lists.specs.Lists.{any, head_or, bytes_equal}
use Rattle.lists.specs.ListLaws.{same_bytes-eq}
use Rattle.lists.specs.TableLaws.{below}
use Rattle.syntax.specs.Statements.{editions, words_of}
use Rattle.editions.specs.Convert.{respell}
use Rattle.editions.proofs.PairLaws.{none_beside}
use Rattle.words.specs.Keywords.{word_at, place_in, other_word}
use Rattle.words.proofs.KeywordLaws.{Case, case, no_place, other_none}

agrees : Bool → ℕ → Bool
agrees e j = bytes_equal (respell (word_at e j)) (other_word (word_at e j))

all-agree : (e : Bool) (j : ℕ) → j < 46 → T (agrees e j)
unfolding agrees respell other_word place_in
all-agree true = below (agrees true) 46 tt
all-agree false = below (agrees false) 46 tt

module _ (w : List ℕ) where
  at_place : (e : Bool) (j : ℕ) → j < 46 → w ≡ word_at e j → respell w ≡ other_word w
  unfolding agrees
  at_place e j h q = rw q (same_bytes-eq (respell (word_at e j)) (other_word (word_at e j)) (all-agree e j h))

  at_none : any (bytes_equal w) (words_of false) ≡ false → any (bytes_equal w) (words_of true) ≡ false → respell w ≡ other_word w
  unfolding respell
  at_none p q =
      ap (head_or w) (none_beside w editions p q)
      ∙ other_none w refl (omega (arith, no_place false w p)) refl (omega (arith, no_place true w q))

  pub respell-other : respell w ≡ other_word w
  respell-other = first (case false w)
    where
      later : any (bytes_equal w) (words_of false) ≡ false → Case true w → respell w ≡ other_word w
      later p (Case.one j h q) = at_place true j h q
      later p (Case.none q) = at_none p q

      first : Case false w → respell w ≡ other_word w
      first (Case.one j h q) = at_place false j h q
      first (Case.none p) = later p (case true w)
