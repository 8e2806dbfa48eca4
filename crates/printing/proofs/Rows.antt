-- The row of PISZ: what it makes of a store, and that its function does it.
use mathlib.Core.Path.{◌≡◌, refl, ap, ◌∙◌}
use mathlib.Core.Bool.{Bool, true, false}
use mathlib.Core.List.{List}
use Prim.Native.Nat.{ℕ}
use Rattle.std.specs.Prelude.{Result, Ok, Err}
use Rattle.language.specs.Letters.Letter.{Q}
use Rattle.language.specs.Program.{Arg, Program}
use Rattle.language.specs.Program.Op.{PISZ}
use Rattle.language.specs.Values.{Component, Store, State, Inputs}
use Rattle.machine.specs.Arguments.{ask, ◌&◌, Until, test_asks, on_parts}
use Rattle.machine.specs.Changes.{past_by, past}
use Rattle.machine.specs.Effects.{Row, moved, row}
use Rattle.machine.specs.Effects.Go.{on}
use Rattle.state.specs.Working.{Stands, nth, reading}
use Rattle.instructions.specs.Questions.{question_number, told_by}
use Rattle.instructions.specs.declared.Question.{Question}
use Rattle.instructions.specs.Does.{DoesFor, Tried}
use Rattle.tests.specs.Prepares.{Prepares, until_in}
use Rattle.tests.specs.declared.Prepared.{Prepared}
use Rattle.tests.proofs.Asked.{test-read, words-stop, words-tried}
use Rattle.moves.specs.Moves.{all_taken_words}
use Rattle.moves.proofs.WordsTaken.{none-words}
use Rattle.printing.specs.Printing.{spelled_out}

row-pisz : (g : Program) (ins : Inputs) (s : Store) (i : ℕ) (c : Arg) (removes : Bool) (j : ℕ)
    → row g ins s (nth (reading removes) i) (nth Q j) c PISZ
    ≡ (test_asks ins s c & ask 53 (all_taken_words (on_parts ins s c) i s), spelled_out (on_parts ins s c) removes i j s, on)
unfolding row moved spelled_out all_taken_words past past_by
row-pisz g ins s i c true j = refl
row-pisz g ins s i c false j = refl

module _ {σ : State} (h : Stands σ) (i : ℕ) (c : Arg) {g : List ℕ} {r : Result Prepared Question} (w : Prepares σ.store c g r) (removes : Bool) (j : ℕ) where
  abbrev s : Store
  s = σ.store

  abbrev out : Program → Inputs → Row
  out h ins = row h ins s (nth (reading removes) i) (nth Q j) c PISZ

  pub pisz-stop : {q : Question} → r ≡ Err q → DoesFor σ (question_number q) σ out
  pisz-stop e f ins =
      let u = on_parts ins s c in
      rw (row-pisz f ins s i c removes j)
      (words-stop h c w ins (spelled_out u removes i j s) (all_taken_words u i s)
      (λ z. ap (λ (v : Until Component). all_taken_words v i s) (w.negative (ap told_by e ∙ z) ins) ∙ none-words i s) e)

  pub pisz-tried : {p : Prepared} → r ≡ Ok p → {k : ℕ} {σ' : State}
      → Tried σ k σ' (all_taken_words (until_in p g) i s) (spelled_out (until_in p g) removes i j s)
      → DoesFor σ k σ' out
  pisz-tried {p} e k f ins =
      let u = until_in p g in
      rw (row-pisz f ins s i c removes j, (test-read w e).parts ins) (words-tried h c w ins (spelled_out u removes i j s) (all_taken_words u i s) e k)
