-- Where neither of the two questions is answered no, both are answered yes; and what is said of a task that has what was lent.
use Rattle.std.specs.Prelude.{◌≡◌, refl, Bool, true, false, cond, List, ℕ, Result, Ok}
use Rattle.std.proofs.Math.Path.{subst}
use Rattle.std.proofs.Common.{sym, ◌∙◌, arith}
use Rattle.std.specs.Result.{MatchResult}
use Rattle.language.specs.Values.{Inputs}
use Rattle.layout.specs.Table.{good_table}
use Rattle.machine.specs.WellFormed.{good_inputs}
use Rattle.calls.specs.Questions.{question_number}
use Rattle.calls.specs.declared.Question.{Question}
use Rattle.calls.specs.declared.Question.TheVariants as code
use Rattle.tasks.specs.declared.Task.{Task}
use Rattle.check_calls.specs.Asked.{first_no, Has, Asks}

pub both_yes : (c : List ℕ) (ins : Inputs) {k : ℕ} → k ≡ first_no c ins → k ≡ 0 → (good_table c ≡ true) × (good_inputs ins ≡ true)
both_yes c ins told none = go (good_table c) (good_inputs ins) refl refl (sym told ∙ none)
  where
    go : (a b : Bool) → good_table c ≡ a → good_inputs ins ≡ b → ◌≡◌ {A = ℕ} (cond a (cond b 0 61) 62) 0 → (good_table c ≡ true) × (good_inputs ins ≡ true)
    go false b p q h = absurd (omega (arith, h))
    go true false p q h = absurd (omega (arith, h))
    go true true p q h = (p, q)

-- the number of a question is not 0
pub some : (q : Question) → ◌≡◌ {A = ℕ} (question_number q) 0 → ⊥
some code.Size z = omega (arith, z)
some code.Inputs z = omega (arith, z)
some code.Table z = omega (arith, z)
some code.State z = omega (arith, z)
some code.Conversion z = omega (arith, z)
some code.Lines z = omega (arith, z)
some code.Frames z = omega (arith, z)
some code.Class z = omega (arith, z)

-- ---- a task that has what was lent

pub has : {c i j : List ℕ} {r : Result Task Question} → Asks c i j r → {t : Task} → r ≡ Ok t → Has c i j t
has {c} {i} {j} h e = subst (λ r. MatchResult r (Has c i j) (λ _. Unit {0})) e h.task

module _ {c i j : List ℕ} {t : Task} (h : Has c i j t) (P : List ℕ → List ℕ → List ℕ → Type 0) where
  pub of_task : P c i j → P t.table.cells.now t.first.now t.second.now
  of_task x =
      let e = subst (λ y. P y i j) (sym h.table) x in
      let f = subst (λ y. P t.table.cells.now y j) (sym h.first) e in
      subst (P t.table.cells.now t.first.now) (sym h.second) f

  pub of_lent : P t.table.cells.now t.first.now t.second.now → P c i j
  of_lent x =
      let e = subst (λ y. P y t.first.now t.second.now) h.table x in
      let f = subst (λ y. P c y t.second.now) h.first e in
      subst (P c i) h.second f
