-- The rows of moves of components: what they make of a store, and that their functions do it.
use mathlib.Core.Path.{◌≡◌, refl, ap}
use mathlib.Core.Bool.{Bool, true, false}
use mathlib.Core.List.{List}
use Prim.Native.Nat.{ℕ}
use lib.ListN.{take}
use Rattle.std.specs.Prelude.{Result, Ok, Err}
use Rattle.language.specs.Program.{Arg, Program}
use Rattle.language.specs.Program.Arg.{nothing}
use Rattle.language.specs.Program.Op.{PRZESLIJ, USUN}
use Rattle.language.specs.Values.{Store, State, Inputs}
use Rattle.machine.specs.Arguments.{expr, test_asks, on_parts}
use Rattle.machine.specs.Changes.{put_expr, placed, into, past_by, past}
use Rattle.machine.specs.Effects.{Row, moved, row}
use Rattle.machine.specs.Effects.Go.{on}
use Rattle.state.specs.Working.{HoldsState, Stands, on_store, nth, reading}
use Rattle.instructions.specs.Does.{DoesFor, Tried}
use Rattle.instructions.specs.Operands.{target}
use Rattle.instructions.proofs.Answers.{tried-done}
use Rattle.instructions.specs.Questions.{question_number}
use Rattle.instructions.specs.declared.Question.{Question}
use Rattle.tests.specs.Prepares.{Prepares, until_in}
use Rattle.tests.specs.declared.Prepared.{Prepared}
use Rattle.tests.proofs.Asked.{test-read, test-stop, test-tried}
use Rattle.moves.specs.Moves.{sent, cut_off}

module _ (g : Program) (ins : Inputs) (s : Store) (i : ℕ) (c : Arg) where
  -- ---- what they make

  moved-sent : (removes reverses at_end : Bool) (j : ℕ)
      → moved g ins s (nth (reading removes) i) c (λ k. into (nth (target reverses at_end) j) (take k (expr s (nth (reading removes) i))))
      ≡ sent (on_parts ins s c) removes i reverses at_end j s
  unfolding moved sent into placed put_expr past past_by
  moved-sent true true true j = refl
  moved-sent true true false j = refl
  moved-sent true false true j = refl
  moved-sent true false false j = refl
  moved-sent false true true j = refl
  moved-sent false true false j = refl
  moved-sent false false true j = refl
  moved-sent false false false j = refl

  moved-cut : moved g ins s (nth (reading true) i) c (λ k t. t) ≡ cut_off (on_parts ins s c) i s
  unfolding moved cut_off past
  moved-cut = refl

  row-przeslij : (removes reverses at_end : Bool) (j : ℕ)
      → row g ins s (nth (reading removes) i) (nth (target reverses at_end) j) c PRZESLIJ ≡ (test_asks ins s c, sent (on_parts ins s c) removes i reverses at_end j s, on)
  unfolding row
  row-przeslij removes reverses at_end j = ap (λ (t : Store). (test_asks ins s c, t, on)) (moved-sent removes reverses at_end j)

  row-usun : row g ins s (nth (reading true) i) c nothing USUN ≡ (test_asks ins s c, cut_off (on_parts ins s c) i s, on)
  unfolding row
  row-usun = ap (λ (t : Store). (test_asks ins s c, t, on)) moved-cut

-- ---- what their functions do

-- a store's change is held
pub done-right : {σ σ' : State} {right : Bool} → Stands σ → (f : Store → Store) → right ≡ true → HoldsState σ' (on_store f σ)
    → Tried σ 0 σ' right (f σ.store)
unfolding on_store
done-right {σ} h f q k = tried-done h (f σ.store) q k

pub done : {σ σ' : State} → Stands σ → (f : Store → Store) → HoldsState σ' (on_store f σ)
    → Tried σ 0 σ' true (f σ.store)
done h f k = done-right h f refl k

module _ {σ : State} (h : Stands σ) (i : ℕ) (c : Arg) {g : List ℕ} {r : Result Prepared Question} (w : Prepares σ.store c g r) where
  abbrev s : Store
  s = σ.store

  module _ (removes reverses at_end : Bool) (j : ℕ) where
    abbrev by : Program → Inputs → Row
    by h ins = row h ins s (nth (reading removes) i) (nth (target reverses at_end) j) c PRZESLIJ

    pub przeslij-stop : {q : Question} → r ≡ Err q → DoesFor σ (question_number q) σ by
    przeslij-stop e f ins =
        rw (row-przeslij f ins s i c removes reverses at_end j) (test-stop h c w ins (sent (on_parts ins s c) removes i reverses at_end j s) e)

    pub przeslij-tried : {p : Prepared} → r ≡ Ok p → {k : ℕ} {σ' : State}
        → Tried σ k σ' true (sent (until_in p g) removes i reverses at_end j s) → DoesFor σ k σ' by
    przeslij-tried {p} e k f ins =
        rw (row-przeslij f ins s i c removes reverses at_end j, (test-read w e).parts ins)
        (test-tried h c w ins (sent (until_in p g) removes i reverses at_end j s) e k)

  abbrev gone : Program → Inputs → Row
  gone h ins = row h ins s (nth (reading true) i) c nothing USUN

  pub usun-stop : {q : Question} → r ≡ Err q → DoesFor σ (question_number q) σ gone
  usun-stop e f ins = rw (row-usun f ins s i c) (test-stop h c w ins (cut_off (on_parts ins s c) i s) e)

  pub usun-done : {p : Prepared} → r ≡ Ok p → {σ' : State} → HoldsState σ' (on_store (cut_off (until_in p g) i) σ) → DoesFor σ 0 σ' gone
  usun-done {p} e k f ins =
      let u = until_in p g in
      rw (row-usun f ins s i c, (test-read w e).parts ins) (test-tried h c w ins (cut_off u i s) e (done h (cut_off u i) k))
