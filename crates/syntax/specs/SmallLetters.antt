-- Laws of the small letters in a text, each by one computed test: "The 26 small letters become characters in data and texts .. Operators and labels
-- stay in capitals."
use Rattle.std.specs.Prelude.{Bool, true, false, not, ◌||◌, List, [], ◌∷◌, ℕ, ◌+◌, ◌<◌, T}
use Rattle.language.specs.Below.Lists.{all, among}
use Rattle.language.specs.Below.ListLaws.{T-left, T-right, all_cons, all_among}
use Rattle.language.specs.Below.ListsTableLaws.{below}
use Rattle.language.specs.Below.Characters.{known, is_capital, is_digit}
use Rattle.language.specs.Program.{identifier}
use Rattle.syntax.specs.Items.{sort_of, same_sort, allows}
use Rattle.syntax.specs.Items.Sort.{wrong}

-- outside texts and comments none may stand: 14
pub small-outside : (i : ℕ) → i < 26 → T (same_sort wrong (sort_of (97 + i)))
unfolding sort_of
small-outside i h = below (λ k. same_sort wrong (sort_of (97 + k))) 26 tt i h

-- in a text each stands for itself, and none after a star: 15
pub small-in_text : (i : ℕ) → i < 26 → T (allows false (97 + i))
unfolding allows known
small-in_text i h = below (λ k. allows false (97 + k)) 26 tt i h

pub small-in-no-pair : (i : ℕ) → i < 26 → T (not (allows true (97 + i)))
unfolding allows
small-in-no-pair i h = below (λ k. not (allows true (97 + k))) 26 tt i h

-- and no identifier has one
capital-too : (b : ℕ) → T (is_capital b) → T (is_capital b || is_digit b)
capital-too b h = go (is_capital b) h
  where
    go : (x : Bool) → T x → T (x || is_digit b)
    go true h = tt
    go false h = absurd h

pub small-in-no-name : (i : ℕ) → i < 26 → (w : List ℕ) → T (identifier w) → T (among (97 + i) w) → ⊥
small-in-no-name i h [] t m = absurd t
small-in-no-name i h (b ∷ w) t m =
    let f : ℕ → Bool = λ x. is_capital x || is_digit x in
    let all_of : T (all f (b ∷ w)) = all_cons f b w (capital-too b (T-left (is_capital b) (all f w) t)) (T-right (is_capital b) (all f w) t) in
    both (f (97 + i)) (all_among f (b ∷ w) all_of (97 + i) m) (below (λ k. not (is_capital (97 + k) || is_digit (97 + k))) 26 tt i h)
  where
    both : (x : Bool) → T x → T (not x) → ⊥
    both true t n = n
    both false t n = t
