-- RW of all components of an expression, by T.
use mathlib.Core.Path.{◌≡◌, refl, sym, ap, ◌∙◌}
use mathlib.Core.Bool.{Bool, true, false}
use mathlib.Core.List.{List}
use Prim.Native.Nat.{ℕ}
use lib.ListN.{take}
use Rattle.std.specs.Prelude.{Result, Ok, Err}
use Rattle.lists.specs.Lists.{any, filled}
use Rattle.language.specs.Letters as letters
use Rattle.language.specs.Program.{Arg, Program}
use Rattle.language.specs.Program.Arg.{nothing}
use Rattle.language.specs.Program.Op.{RW}
use Rattle.language.specs.Values.{Component, Store, State, Inputs}
use Rattle.machine.specs.Arguments.{Asks, use_by, expr, side, is_count, single, none, ask, ◌&◌, when, matches, taken}
use Rattle.machine.specs.Changes.{minus_unless, past_by, used_by, used}
use Rattle.machine.specs.Effects.{relation, equality, row}
use Rattle.machine.specs.Effects.Go.{on}
use Rattle.layout.specs.Components.{components_in}
use Rattle.layout.proofs.ComponentLaws.{components-of}
use Rattle.matching.specs.Tests.{Took}
use Rattle.matching.specs.declared.Taken.{Taken}
use Rattle.comparands.proofs.Below.Signs.{kept-or-minus}
use Rattle.packed.specs.Packed.{table_of}
use Rattle.state.specs.Working.{HoldsState, Stands, on_store, nth}
use Rattle.state.specs.Blocks.{ExprLent}
use Rattle.table.specs.Denote.{arg_of}
use Rattle.table.specs.declared.Argument.{Argument}
use Rattle.instructions.specs.Questions.{question_number, told_by}
use Rattle.instructions.specs.declared.Question.{Question}
use Rattle.instructions.proofs.Asking.{some}
use Rattle.instructions.specs.Does.{DoesFor, Quiet, stop_of}
use Rattle.instructions.proofs.Answers.{quiet-stop, quiet-done}
use Rattle.comparands.specs.Offers.{ArgumentOffers}
use Rattle.equality.specs.Equality.{until_by}
use Rattle.equality.proofs.Meeting.{met}
use Rattle.equality.proofs.Questions.{beside, offer_by, numeric}

abbrev any_by : Bool → Bool → Bool → Bool → Asks
any_by s c fy nu = none & when s (ask 52 fy) & none & when c (ask 53 nu)

quiet-any : (s c fy nu : Bool) → Quiet (any_by s c fy nu)
quiet-any true true fy nu = record { is_50 = refl; is_55 = refl; is_56 = refl; is_57 = refl; is_58 = refl; is_59 = refl; is_60 = refl }
quiet-any true false fy nu = record { is_50 = refl; is_55 = refl; is_56 = refl; is_57 = refl; is_58 = refl; is_59 = refl; is_60 = refl }
quiet-any false true fy nu = record { is_50 = refl; is_55 = refl; is_56 = refl; is_57 = refl; is_58 = refl; is_59 = refl; is_60 = refl }
quiet-any false false fy nu = record { is_50 = refl; is_55 = refl; is_56 = refl; is_57 = refl; is_58 = refl; is_59 = refl; is_60 = refl }

stop-any : (s c fy nu : Bool) → stop_of (offer_by s c fy nu) ≡ stop_of (any_by s c fy nu)
stop-any false false fy nu = refl
stop-any false true fy nu = refl
stop-any true false true nu = refl
stop-any true false false nu = refl
stop-any true true true nu = refl
stop-any true true false nu = refl

module _ (g : Program) (ins : Inputs) (s : Store) (i : ℕ) (b : Arg) where
  abbrev q : Asks
  q = any_by (single b) (is_count (use_by b).reading) (filled (side ins s b)) (numeric (side ins s b))

  abbrev holds : Bool
  holds = any (matches (λ x. x) ins s b) (expr s (nth letters.Letter.E i))

  row_any : row g ins s (nth letters.Letter.T i) b nothing RW ≡ (q, minus_unless holds s, on)
  unfolding row equality relation used used_by past_by
  row_any = ap (λ (t : Store). (q, t, on)) (kept-or-minus holds s)

module _ {σ : State} (h : Stands σ) (i : ℕ) (c : List ℕ) (a : Argument) {g : List ℕ} {r : Result ℕ Question} (o : ArgumentOffers c σ.store a g r) where
  abbrev s : Store
  s = σ.store

  abbrev b : Arg
  b = arg_of (table_of c) a

  abbrev does : ℕ → State → Type 0
  does k σ' = DoesFor σ k σ' (λ f ins. row f ins s (nth letters.Letter.T i) b nothing RW)

  quiet : (f : Program) (ins : Inputs) → Quiet (q f ins s i b)
  quiet f ins = quiet-any (single b) (is_count (use_by b).reading) (filled (side ins s b)) (numeric (side ins s b))

  stop_is : (f : Program) (ins : Inputs) {k : ℕ} → told_by r ≡ k → k ≡ stop_of (q f ins s i b)
  stop_is f ins e = sym e ∙ (o ins).told ∙ stop-any (single b) (is_count (use_by b).reading) (filled (side ins s b)) (numeric (side ins s b))

  pub any-stop : {k : Question} → r ≡ Err k → does (question_number k) σ
  any-stop {k} e f ins =
      rw (row_any f ins s i b)
      (quiet-stop h (q f ins s i b) (minus_unless (holds f ins s i b) s) (quiet f ins) (stop_is f ins (ap told_by e)) (some k))

  pub any-done : {n : ℕ} → r ≡ Ok n → {x : List ℕ} → ExprLent σ i x → {t : Taken} → Took (until_by a (take n g)) (components_in x) t → {σ' : State}
      → HoldsState σ' (on_store (minus_unless t.reached) σ) → does 0 σ'
  unfolding on_store
  any-done {n} e {x} l {t} k d f ins =
      let y : t.reached ≡ holds f ins s i b =
      sym (ap (λ (u : ℕ × Bool). u.1) k.is)
      ∙ ap (λ (ys : List Component). (taken (until_by a (take n g)) ys).1) l.is
      ∙ met (table_of c) a ins s (take n g) (expr s (nth letters.Letter.E i)) (components-of (beside (o ins) e).encoded) in
      rw (row_any f ins s i b)
      (quiet-done h (q f ins s i b) (minus_unless (holds f ins s i b) s) (quiet f ins) (sym (stop_is f ins (ap told_by e))) (rw y at d))
