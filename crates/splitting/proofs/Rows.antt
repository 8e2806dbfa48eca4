-- The row of ROZBIJ: what it makes of a store, and that its function does it.
use mathlib.Core.Path.{◌≡◌, refl, sym, ap, ◌∙◌}
use mathlib.Core.Bool.{Bool, true, false}
use mathlib.Core.List.{List}
use Prim.Native.Nat.{ℕ}
use Rattle.std.specs.Prelude.{Result, Ok, Err}
use Rattle.std.proofs.lemmas.Result.{IfOk-at_ok}
use Rattle.language.specs.Program.{Arg, Program}
use Rattle.language.specs.Program.Arg.{nothing}
use Rattle.language.specs.Program.Op.{ROZBIJ}
use Rattle.language.specs.Values.{Component, Store, State, Inputs}
use Rattle.machine.specs.Arguments.{Asks, ◌&◌, needs, test_asks, on_chars}
use Rattle.machine.specs.Changes.{put_expr, placed, into, front, past_by, past, used_by, used}
use Rattle.machine.specs.Effects.{Row, row}
use Rattle.machine.specs.Effects.Go.{on}
use Rattle.state.specs.Working.{Stands, nth, reading}
use Rattle.instructions.specs.Does.{DoesFor, Quiet, Tried}
use Rattle.instructions.specs.Fronts.{front_part}
use Rattle.instructions.specs.Questions.{question_number, told_by}
use Rattle.instructions.specs.declared.Question.{Question}
use Rattle.instructions.proofs.Asking.{some}
use Rattle.instructions.proofs.Answers.{unstopped, quiet-stop, quiet-tried}
use Rattle.tests.specs.Prepares.{Prepares, until_firsts_in}
use Rattle.tests.specs.declared.Prepared.{Prepared}
use Rattle.tests.proofs.Asked.{quiet-and, quiet-test, test-read}
use Rattle.splitting.specs.Splitting.{split_up, WordAsked}

row-rozbij : (g : Program) (ins : Inputs) (s : Store) (i : ℕ) (c : Arg) (removes : Bool)
    → row g ins s (nth (reading removes) i) c nothing ROZBIJ ≡ (needs 0 (front_part s i) & test_asks ins s c, split_up (on_chars ins s c) removes i s, on)
unfolding row split_up front into placed put_expr used used_by past past_by
row-rozbij g ins s i c true = refl
row-rozbij g ins s i c false = refl

quiet-needs : (k : ℕ) (xs : List Component) → Quiet (needs k xs)
quiet-needs k xs = record { is_50 = refl; is_55 = refl; is_56 = refl; is_57 = refl; is_58 = refl; is_59 = refl; is_60 = refl }

module _ {σ : State} (h : Stands σ) (removes : Bool) (i : ℕ) (c : Arg) {x : List ℕ} {r : Result Prepared Question} (w : Prepares σ.store c x r)
    {m : Result Prepared Question} (y : WordAsked σ.store i r m) where
  abbrev s : Store
  s = σ.store

  abbrev by : Program → Inputs → Row
  by g ins = row g ins s (nth (reading removes) i) c nothing ROZBIJ

  abbrev asks : Inputs → Asks
  asks ins = needs 0 (front_part s i) & test_asks ins s c

  quiet : (ins : Inputs) → Quiet (asks ins)
  quiet ins = quiet-and (quiet-needs 0 (front_part s i)) (quiet-test ins s c)

  pub rozbij-stop : {q : Question} → m ≡ Err q → DoesFor σ (question_number q) σ by
  rozbij-stop {q} e g ins =
      let u = on_chars ins s c in
      rw (row-rozbij g ins s i c removes)
      (quiet-stop h (asks ins) (split_up u removes i s) (quiet ins) (sym (ap told_by e) ∙ y.told (test_asks ins s c) (w.stop_is ins)) (some q))

  module _ {p : Prepared} (e : m ≡ Ok p) where
    prepared : r ≡ Ok p
    prepared = IfOk-at_ok (λ t. r ≡ Ok t) e y.is

    pub rozbij-tried : {k : ℕ} {σ' : State}
        → Tried σ k σ' true (split_up (until_firsts_in p x) removes i s) → DoesFor σ k σ' by
    rozbij-tried k g ins =
        let u = until_firsts_in p x in
        let a = unstopped (asks ins) (sym (y.told (test_asks ins s c) (w.stop_is ins)) ∙ ap told_by e) in
        rw (row-rozbij g ins s i c removes, (test-read w prepared).chars ins)
        (quiet-tried h (split_up u removes i s) (asks ins) (quiet ins) a.0 a.1 a.2 k)
