-- The row of RW, and that its function does what it says.
use mathlib.Core.Path.{◌≡◌, refl, sym, ap}
use mathlib.Core.Bool.{Bool, true, false}
use mathlib.Core.List.{List}
use Prim.Native.Nat.{ℕ}
use lib.ListN.{length, take}
use Rattle.std.specs.Prelude.{Result, Ok, Err}
use Rattle.lists.specs.Lists.{any, filled}
use Rattle.language.specs.Letters.Letter.{E}
use Rattle.language.specs.Program.{Arg, Program}
use Rattle.language.specs.Program.Arg.{nothing}
use Rattle.language.specs.Program.Op.{RW}
use Rattle.language.specs.Values.{Component, Store, State, Inputs}
use Rattle.machine.specs.Arguments.{use_by, expr, side, is_count, single, matches}
use Rattle.machine.specs.Changes.{minus, minus_unless, past, used_by, used}
use Rattle.machine.specs.Effects.{relation, equality, row}
use Rattle.machine.specs.Effects.Go.{on}
use Rattle.layout.specs.Components.{components_in}
use Rattle.packed.specs.Packed.{table_of}
use Rattle.state.specs.Working.{HoldsState, Stands, on_store, nth, reading}
use Rattle.state.specs.Blocks.{ExprLent}
use Rattle.table.specs.Denote.{arg_of}
use Rattle.table.specs.declared.Argument.{Argument}
use Rattle.instructions.specs.Questions.{question_number}
use Rattle.instructions.specs.declared.Question.{Question}
use Rattle.instructions.specs.Does.{DoesFor}
use Rattle.comparands.specs.Offers.{ArgumentOffers}
use Rattle.equality.specs.Equality.{Unlike, related, settled}
use Rattle.equality.proofs.Meeting.{settled-met}
use Rattle.equality.proofs.Questions.{beside, equal_by, kinds_alike, numeric, related-none, related-stop, related-unlike, related-done}

-- ---- the row

module _ (g : Program) (ins : Inputs) (s : Store) (i : ℕ) (b : Arg) where
  abbrev counts : Bool
  counts = is_count (use_by b).reading

  row-rw : (removes : Bool)
      → row g ins s (nth (reading removes) i) b nothing RW
      ≡ (
        equal_by (single b) counts (filled (take 1 (expr s (nth E i)))) (filled (side ins s b)) (kinds_alike (take 1 (expr s (nth E i))) (side ins s b)) (numeric (side ins s b)),
        related (any (matches (λ x. x) ins s b) (take 1 (expr s (nth E i)))) removes i s,
        on,
      )
  unfolding row equality relation related
  row-rw true = refl
  row-rw false = refl

-- ---- what the end makes

pub finish-done : (w : State) {σ : State} (removes : Bool) (i : ℕ) {holds : Bool} → holds ≡ true → HoldsState σ (on_store (past (nth (reading removes) i) 1) w)
    → HoldsState σ (on_store (related holds removes i) w)
unfolding on_store related used used_by past
finish-done w true i q g = rw q g
finish-done w false i q g = rw q g

pub finish-failed : (w : State) {σ : State} (removes : Bool) (i : ℕ) {holds : Bool} → holds ≡ false → HoldsState σ (on_store (minus_unless false) w)
    → HoldsState σ (on_store (related holds removes i) w)
unfolding on_store related minus minus_unless
finish-failed w removes i q g = rw q g

-- ---- RW

module _ {σ : State} (h : Stands σ) (removes : Bool) (i : ℕ) (c : List ℕ) (a : Argument) {g : List ℕ} {r : Result ℕ Question}
    (o : ArgumentOffers c σ.store a g r) {x : List ℕ} (l : ExprLent σ i x) where
  abbrev s : Store
  s = σ.store

  abbrev b : Arg
  b = arg_of (table_of c) a

  abbrev does : ℕ → State → Type 0
  does k σ' = DoesFor σ k σ' (λ f ins. row f ins s (nth (reading removes) i) b nothing RW)

  abbrev xs : List Component
  xs = take 1 (expr s (nth E i))

  abbrev t : Inputs → Store
  t ins = related (any (matches (λ y. y) ins s b) xs) removes i s

  front : xs ≡ take 1 (components_in x)
  front = ap (take 1) (sym l.is)

  pub rw_none : length x ≡ 0 → does 52 σ
  rw_none z f ins = rw (row-rw f ins s i b removes) (related-none h c a o l.whole front ins (t ins) z)

  module _ (z : length x ≡ 0 → ⊥) where
    pub rw-stop : {k : Question} → r ≡ Err k → does (question_number k) σ
    rw-stop y f ins = rw (row-rw f ins s i b removes) (related-stop h c a o l.whole front ins (t ins) z y)

    module _ {n : ℕ} (y : r ≡ Ok n) {u : Bool} (w : Unlike x (take n g) a u) where
      pub rw-unlike : u ≡ true → does 53 σ
      rw-unlike v f ins = rw (row-rw f ins s i b removes) (related-unlike h c a o l.whole front ins (t ins) z y w v)

      pub rw-done : u ≡ false → {σ' : State} → HoldsState σ' (on_store (settled a (take n g) removes i) σ) → does 0 σ'
      unfolding on_store
      rw-done v d f ins =
          rw (row-rw f ins s i b removes)
          (related-done h c a o l.whole front ins (t ins) z y w v (rw (settled-met (table_of c) a ins s i removes (beside (o ins) y).encoded) at d))
