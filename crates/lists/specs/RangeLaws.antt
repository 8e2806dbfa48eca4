-- What `(k..m).all(..)` answers, of a closure that is a test of numbers.
use Rattle.std.specs.declared.ops.Range.{Range}
use denote.Param.Members.{Mut}
use Rattle.std.specs.List.{list_all, range_with_len, FoldsTo}
use Rattle.std.specs.Fn.{Called}
use Rattle.std.specs.Iterator.{YieldsThen}
use Rattle.std.specs.Option.{MatchOption}
use Rattle.std.specs.Prelude.{◌≡◌, refl, Bool, true, false, List, Option, ℕ, ◌-◌}
use Rattle.std.proofs.iter.Yields.{nat_range_steps}
use Rattle.std.proofs.lemmas.Iterator.{YieldsList-from_range}
use Rattle.std.proofs.lemmas.Iterator.Search.{all_from_yields_List}

module _ {F : Type 0} (g : Mut F (ℕ × Unit {0}) Bool) (closure : F) where
  -- r is what `all` answers of the numbers from k on and below m
  abbrev pub AllRan : ℕ → ℕ → Range ℕ → Bool → Type 0
  AllRan k m u r =
      (xs : List ℕ) × (o : Option ℕ) × (j : F) × YieldsThen nat_range_steps (record { start = k; end = m }) xs o u × FoldsTo (λ p x q. Called g p (x, tt) true q) closure xs j
      × MatchOption o (r ≡ true) (λ x. (r ≡ false) × ((h : F) × Called g j (x, tt) false h))

  -- each call answers what f does, and leaves the closure as it was
  abbrev pub TestsBy : (ℕ → Bool) → Type 0
  TestsBy f = (x : ℕ) (b : Bool) (q : F) → Called g closure (x, tt) b q → (q ≡ closure) × (b ≡ f x)

pub all_in_range : {F : Type 0} {g : Mut F (ℕ × Unit {0}) Bool} (f : ℕ → Bool) (k m n : ℕ) → m - k ≡ n → (u : Range ℕ) (closure : F) (r : Bool) → AllRan g closure k m u r
    → TestsBy g closure f → r ≡ list_all f (range_with_len k n)
all_in_range f k m n e u closure r ran is = all_from_yields_List f u closure r ran (YieldsList-from_range k m n refl e) is
