-- The entries of a switch are tried in order: "the first entry met is taken", by its text or by its label's name.
use Rattle.std.specs.Prelude.{◌≡◌, Bool, true, false, not, cond, ◌&&◌, ◌||◌, List, [], ◌∷◌, ◌++◌, ℕ}
use Rattle.std.proofs.Math.Path.{refl}
use Rattle.language.specs.Program.{Arg, Entry, Program, label_at, target_of, meets}
use Rattle.language.specs.Values.{Store, Inputs, chars}
use Rattle.language.specs.Below.Lists.{all, filled, keep, bytes_equal}
use Rattle.machine.specs.Arguments.{first, side}
use Rattle.machine.specs.Changes.{used}
use Rattle.machine.specs.Effects.{Go, entries_of, named, by_name}

-- where none of xs passes and x does, x is the first that is kept
keep-past : {X : Type 0} (q : X → Bool) (xs ys : List X) (x : X) → all (λ y. not (q y)) xs ≡ true → q x ≡ true → keep q (xs ++ x ∷ ys) ≡ x ∷ keep q ys
keep-past q [] ys x h e = rw e
keep-past q (y ∷ xs) ys x h e = go (q y) h (λ k. keep-past q xs ys x k e)
  where
    go : (b : Bool) → not b && all (λ y. not (q y)) xs ≡ true → (all (λ y. not (q y)) xs ≡ true → keep q (xs ++ x ∷ ys) ≡ x ∷ keep q ys)
        → cond b (y ∷ keep q (xs ++ x ∷ ys)) (keep q (xs ++ x ∷ ys)) ≡ x ∷ keep q ys
    go true h k = cc
    go false h k = k h

module _ (p : Program) (ins : Inputs) (s : Store) (a b : Arg) where
  abbrev the_word : List ℕ
  the_word = chars (first (side ins s a))

  -- the entries that SKONA, WYNA and SZUKAJ go by
  pub named_by : named p ins s a b ≡ keep (λ e. (filled e.text && bytes_equal e.text the_word) || bytes_equal (label_at p e.label).name the_word) (entries_of p ins s b)
  unfolding meets
  named_by = refl

  -- SKONA and WYNA take the first
  pub first_taken : (to : ℕ → Go) (missed : Store) (before after : List Entry) (e : Entry) → entries_of p ins s b ≡ before ++ e ∷ after
      → all (λ x. not (meets p x the_word)) before ≡ true → meets p e the_word ≡ true
      → ((by_name p ins s to missed a b).1 ≡ used a s) × ((by_name p ins s to missed a b).2 ≡ to (target_of p e))
  unfolding by_name
  first_taken to missed before after e q h m = let k = keep-past (λ x. meets p x the_word) before after e h m in (rw (q, k), rw (q, k))
