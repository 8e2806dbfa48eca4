-- The tests of single bytes in the source against the definitions, each by one computed test.
use mathlib.Core.Path.{◌≡◌, ap, sym}
use mathlib.Core.Bool.{Bool, true, false, not, ◌&&◌, ◌||◌, beq}
use mathlib.Core.List.{List, [], ◌∷◌}
use Prim.Native.Nat.{ℕ, ◌<◌}
use lib.Dec.{eqb, eqb→eq}
use borrow.Author.Tests.{eqb-true}
use Rattle.syntax.specs.Below.Lists.{among}
use Rattle.syntax.specs.Below.ListsTableLaws.{beq-eq, below, below-unless, Missed, missed}
use Rattle.syntax.specs.Below.Characters.{known, is_capital, is_digit}
use Rattle.syntax.specs.Items.{sort_of, sort_number, same_sort, pair_of, is_pair, allows}
use Rattle.syntax.specs.Items.Sort.{separator, word}
use Rattle.std.proofs.Common.{◌⊎◌, inl, inr, ◌∙◌, None}
use Rattle.std.specs.Option.{is_some}
use Rattle.scanner.specs.Scans.{if_pair}

-- the ranges of `is_word`
abbrev pub ranges : ℕ → Bool
ranges b = ((is_capital b || is_digit b) || eqb b 43) || eqb b 45

pub ranges-word : (b : ℕ) → b < 256 → ranges b ≡ same_sort word (sort_of b)
unfolding sort_of
ranges-word b h = beq-eq (ranges b) (same_sort word (sort_of b)) (below (λ k. beq (ranges k) (same_sort word (sort_of k))) 256 tt b h)

pub word_arm : (b : ℕ) → same_sort word (sort_of b) ≡ true → 1 ≡ sort_number (sort_of b)
word_arm b h = eqb-true 1 (sort_number (sort_of b)) h

pub sort_arm : {b k : ℕ} → b ≡ k → sort_number (sort_of k) ≡ sort_number (sort_of b)
sort_arm e = ap (λ n. sort_number (sort_of n)) (sym e)

pub sort_arm_two : {b j k : ℕ} → (b ≡ j) ⊎ (b ≡ k) → sort_number (sort_of j) ≡ sort_number (sort_of k) → sort_number (sort_of j) ≡ sort_number (sort_of b)
sort_arm_two (inl e) h = sort_arm e
sort_arm_two (inr e) h = h ∙ sort_arm e

-- the numbers of the arms of `sort_of`
abbrev sort_arms : List ℕ
sort_arms = 32 ∷ 44 ∷ 58 ∷ 59 ∷ 10 ∷ 39 ∷ []

pub sort_rest : (b : ℕ) → b < 256 → same_sort word (sort_of b) ≡ false → Missed (Unit {0}) sort_arms b → 5 ≡ sort_number (sort_of b)
unfolding sort_of
sort_rest b h w m =
    let n : (same_sort word (sort_of b) || among b sort_arms) ≡ false = rw w (missed sort_arms b m) in
    eqb→eq 5 (sort_number (sort_of b)) (below-unless (λ k. same_sort word (sort_of k) || among k sort_arms) (λ k. eqb 5 (sort_number (sort_of k))) 256 tt b h n)

pub pair_arm : {b k : ℕ} → b ≡ k → if_pair (pair_of k) ≡ if_pair (pair_of b)
pair_arm e = ap (λ (n : ℕ). if_pair (pair_of n)) (sym e)

-- the numbers of the arms of `pair_of`
abbrev pair_arms : List ℕ
pair_arms = 76 ∷ 44 ∷ 42 ∷ 85 ∷ 86 ∷ 87 ∷ 88 ∷ 89 ∷ 90 ∷ 77 ∷ 68 ∷ 69 ∷ 71 ∷ 83 ∷ []

pub pair_rest : (b : ℕ) → b < 256 → Missed (Unit {0}) pair_arms b → None ≡ if_pair (pair_of b)
pair_rest b h m = ap if_pair (eqb→eq 0 (pair_of b) (below-unless (λ k. among k pair_arms) (λ k. eqb 0 (pair_of k)) 256 tt b h (missed pair_arms b m)))

pub pair-allowed : (b : ℕ) → b < 256 → is_some (if_pair (pair_of b)) ≡ allows true b
unfolding allows
pair-allowed b h = beq-eq (is_some (if_pair (pair_of b))) (is_pair b) (below (λ k. beq (is_some (if_pair (pair_of k))) (is_pair k)) 256 tt b h)

abbrev plain : ℕ → Bool
plain b = eqb b 42 || ((known b && not (eqb b 10)) && not (eqb b 39))

pub plain-allowed : (b : ℕ) → b < 256 → plain b ≡ allows false b
unfolding allows known
plain-allowed b h = beq-eq (plain b) (allows false b) (below (λ k. beq (plain k) (allows false k)) 256 tt b h)

-- the separators
abbrev pub spaces : ℕ → Bool
spaces b = eqb b 32 || eqb b 44

pub spaces-separate : (b : ℕ) → b < 256 → spaces b ≡ same_sort separator (sort_of b)
unfolding sort_of
spaces-separate b h = beq-eq (spaces b) (same_sort separator (sort_of b)) (below (λ k. beq (spaces k) (same_sort separator (sort_of k))) 256 tt b h)
