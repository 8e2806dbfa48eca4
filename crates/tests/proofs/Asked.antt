-- A test asks 52, 53 and 54 alone.
use mathlib.Core.Path.{◌≡◌, refl, sym, ap, ◌∙◌}
use mathlib.Core.Bool.{Bool, true, false, ◌&&◌}
use mathlib.Core.List.{List}
use Prim.Native.Nat.{ℕ}
use Rattle.std.specs.Prelude.{Result, Ok, Err}
use Rattle.std.proofs.lemmas.Result.{IfOk-at_ok}
use Rattle.language.specs.Letters.{use_of}
use Rattle.language.specs.Program.{Arg}
use Rattle.language.specs.Program.Arg.{nothing, letter, label, switch, class, text}
use Rattle.language.specs.Values.{Store, State, Inputs}
use Rattle.machine.specs.Arguments.{Asks, is_one, is_count, ask, when, ◌&◌, test_asks}
use Rattle.machine.specs.Effects.Go.{on}
use Rattle.state.specs.Working.{Stands}
use Rattle.instructions.specs.Questions.{question_number, told_by}
use Rattle.instructions.specs.declared.Question.{Question}
use Rattle.instructions.specs.Does.{Does, Quiet, Tried, stop_of}
use Rattle.instructions.proofs.Answers.{stop_by, unstopped, quiet-stop, quiet-tried}
use Rattle.instructions.proofs.Asking.{some}
use Rattle.instructions.proofs.Storing.{quiet_none}
use Rattle.tests.specs.Prepares.{ReadTest, Prepares}
use Rattle.tests.specs.declared.Prepared.{Prepared}

pub quiet-and : {x y : Asks} → Quiet x → Quiet y → Quiet (x & y)
quiet-and h k =
    record {
      is_50 = rw (h.is_50, k.is_50) refl;
      is_55 = rw (h.is_55, k.is_55) refl;
      is_56 = rw (h.is_56, k.is_56) refl;
      is_57 = rw (h.is_57, k.is_57) refl;
      is_58 = rw (h.is_58, k.is_58) refl;
      is_59 = rw (h.is_59, k.is_59) refl;
      is_60 = rw (h.is_60, k.is_60) refl;
    }

quiet-when : (b : Bool) {x : Asks} → Quiet x → Quiet (when b x)
quiet-when true h = h
quiet-when false h = quiet_none

abbrev silent : (q : Asks) → q 50 ≡ true → q 55 ≡ true → q 56 ≡ true → q 57 ≡ true → q 58 ≡ true → q 59 ≡ true → q 60 ≡ true → Quiet q
silent q a b c d e f g = record { is_50 = a; is_55 = b; is_56 = c; is_57 = d; is_58 = e; is_59 = f; is_60 = g }

pub quiet-test : (ins : Inputs) (s : Store) (c : Arg) → Quiet (test_asks ins s c)
quiet-test ins s nothing = quiet_none
quiet-test ins s (letter l n) =
    quiet-and (quiet-when (is_one (use_of l).reading) (silent _ refl refl refl refl refl refl refl))
    (quiet-when (is_count (use_of l).reading) (silent _ refl refl refl refl refl refl refl))
quiet-test ins s (label n) = quiet_none
quiet-test ins s (switch n) = quiet_none
quiet-test ins s (class cs) = quiet_none
quiet-test ins s (text t) = quiet_none
quiet-test ins s (Arg.number z) = silent _ refl refl refl refl refl refl refl

-- ---- an instruction with a test: a question of the test is answered no, or what is tried is done

pub quiet-words : (b : Bool) → Quiet (ask 53 b)
quiet-words b = silent (ask 53 b) refl refl refl refl refl refl refl

and-stop : (a b c d : Bool) → (stop_by a b c ≡ 54 → d ≡ true) → (stop_by a b c ≡ 0 → ⊥) → stop_by a b c ≡ stop_by (a && true) (b && d) (c && true)
and-stop false b c d m z = refl
and-stop true false c d m z = refl
and-stop true true false d m z = rw (m refl) refl
and-stop true true true d m z = absurd (z refl)

-- what is told of a test that is made, and of one that is refused
module _ {s : Store} {c : Arg} {g : List ℕ} {r : Result Prepared Question} (w : Prepares s c g r) where
  pub test-read : {p : Prepared} → r ≡ Ok p → ReadTest s c g p
  test-read e = IfOk-at_ok (λ p. ReadTest s c g p) e w.is

  pub test-asked : {p : Prepared} → r ≡ Ok p → (ins : Inputs) → stop_of (test_asks ins s c) ≡ 0
  test-asked e ins = sym (w.stop_is ins) ∙ ap told_by e

  pub test-refused : {q : Question} → r ≡ Err q → (ins : Inputs) → question_number q ≡ stop_of (test_asks ins s c)
  test-refused e ins = sym (ap told_by e) ∙ w.stop_is ins

module _ {σ : State} (h : Stands σ) (c : Arg) {g : List ℕ} {r : Result Prepared Question} (w : Prepares σ.store c g r) (ins : Inputs) (t : Store) where
  abbrev asks : Asks
  asks = test_asks ins σ.store c

  quiet : Quiet asks
  quiet = quiet-test ins σ.store c

  pub test-stop : {q : Question} → r ≡ Err q → Does σ (question_number q) σ (asks, t, on)
  test-stop {q} e = quiet-stop h asks t quiet (test-refused w e ins) (some q)

  pub test-tried : {p : Prepared} → r ≡ Ok p → {x : ℕ} {σ' : State} → Tried σ x σ' true t → Does σ x σ' (asks, t, on)
  test-tried e k = let a = unstopped asks (test-asked w e ins) in quiet-tried h t asks quiet a.0 a.1 a.2 k

  -- and with 53 asked of what is taken, which is nothing by a count that is refused
  module _ (words : Bool) where
    pub words-stop : {q : Question} → (question_number q ≡ 54 → words ≡ true) → r ≡ Err q → Does σ (question_number q) σ (asks & ask 53 words, t, on)
    words-stop {q} m z =
        let e = test-refused w z ins in
        quiet-stop h (asks & ask 53 words) t (quiet-and quiet (quiet-words words))
        (e ∙ and-stop (asks 52) (asks 53) (asks 54) words (λ y. m (e ∙ y)) (λ y. some q (e ∙ y))) (some q)

    pub words-tried : {p : Prepared} → r ≡ Ok p → {x : ℕ} {σ' : State} → Tried σ x σ' words t → Does σ x σ' (asks & ask 53 words, t, on)
    words-tried e k =
        let a = unstopped asks (test-asked w e ins) in
        quiet-tried h t (asks & ask 53 words) (quiet-and quiet (quiet-words words)) (rw a.0 refl) (rw a.1 refl) (rw a.2 refl) k
