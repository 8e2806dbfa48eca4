-- Each answer of a call, from the questions asked so far.
use mathlib.Core.Path.{◌≡◌, refl, sym, ap, ◌∙◌, subst}
use mathlib.Core.Bool.{Bool, true, false, cond}
use mathlib.Core.List.{List, [], ◌∷◌}
use Prim.Native.Nat.{ℕ, ◌≤◌, ◌<◌}
use lib.Dec.{T}
use lib.ListN.{length}
use borrow.Author.Tests.{le-leb, lt-leb}
use Rattle.calls.proofs.AnswerLaws.{count-told}
use Rattle.class_running.proofs.Seating.{number-told}
use Rattle.language.specs.Limits as limit
use Rattle.language.specs.Values.{Inputs}
use Rattle.machine.specs.WellFormed.{good_inputs, started}
use Rattle.machine.specs.Runs.Answer.{stopped}
use Rattle.layout.specs.Memory.{state_of, good_memory, written}
use Rattle.layout.specs.Table.{program_of, good_table}
use Rattle.class_running.specs.Below.Running.{stop_number, run_on, Runnable, RanOn}
use Rattle.class_running.specs.Below.Ran.{Ran}
use Rattle.calls.specs.Calls.{packed, Call, call_inputs, Result, reply_answer, memory_passes, result_of, start_of, run_of}
use Rattle.calls.specs.Calls.Call.{start_on}
use Rattle.calls.proofs.OrderLaws.{is-62, is-61, is-63, is-accepted}
use Rattle.check_calls.specs.Asked.{first_no}
use Rattle.check_calls.specs.AskedLaws.{both_yes}
use Rattle.check_state.specs.Asked.{Asked}
use Rattle.interpreter.specs.Answers.{Answers}

-- a refusal
answers : {x y : Result} → x ≡ y → {r : ℕ} {m : List ℕ} → r ≡ reply_answer y.reply → m ≡ y.cells → Answers x r m
answers e q w = record { answer = rw e q; cells = rw e w }

module _ (c m : List ℕ) (x : Call) {k : ℕ} (told : k ≡ first_no c (call_inputs x)) where
  -- it is 62 or 61, or there is none
  pub refused-early : (k ≡ 0 → ⊥) → {r : ℕ} → r ≡ packed k 0 → Answers (result_of c x m) r m
  refused-early n {r} w = go (good_table c) (good_inputs (call_inputs x)) refl refl told
    where
      go : (a b : Bool) → good_table c ≡ a → good_inputs (call_inputs x) ≡ b → k ≡ cond a (cond b 0 61) 62 → Answers (result_of c x m) r m
      go false b p q h = answers (is-62 c m x p) (w ∙ ap (λ (j : ℕ). packed j 0) h) refl
      go true false p q h = answers (is-61 c m x p q) (w ∙ ap (λ (j : ℕ). packed j 0) h) refl
      go true true p q h = absurd (n h)

  pub refused-63 : k ≡ 0 → memory_passes c x m ≡ false → {r : ℕ} → r ≡ packed 63 0 → Answers (result_of c x m) r m
  refused-63 z g w = let y = both_yes c (call_inputs x) told z in answers (is-63 c m x y.0 y.1 g) w refl

module _ (c m : List ℕ) (ins : Inputs) {k : ℕ} (told : k ≡ first_no c ins) (none : k ≡ 0) where
  pub short-63 : length m < limit.state → {r : ℕ} → r ≡ packed 63 0 → Answers (start_of c ins m) r m
  short-63 h w = refused-63 c m (start_on ins) told none (lt-leb limit.state (length m) h) w

  pub start-made : limit.state ≤ length m → {r : ℕ} {m' : List ℕ} → r ≡ packed 80 0 → m' ≡ written started m → Answers (start_of c ins m) r m'
  start-made h w z = let y = both_yes c ins told none in answers (is-accepted c m (start_on ins) y.0 y.1 (le-leb limit.state (length m) h)) w z

-- a run that is not refused
module _ (c i j m : List ℕ) (budget : ℕ) {k : ℕ} (told : k ≡ first_no c (i ∷ j ∷ [])) (none : k ≡ 0) where
  abbrev call : Call
  call = Call.run_on (i ∷ j ∷ []) budget

  -- what the question 63 asks of those before it
  pub asked : Asked c i j
  asked = let y = both_yes c (i ∷ j ∷ []) told none in record { table = subst T (sym y.0) tt; inputs = subst T (sym y.1) tt }

  module _ {d : Bool} (is : d ≡ good_memory (program_of c) (i ∷ j ∷ []) m) (g : d ≡ true) where
    pub runnable : Runnable c i j m
    runnable = record { table = asked.table; right = asked.inputs; memory = subst T (sym g ∙ is) tt }

    pub run-made : {t : Ran} {m' : List ℕ} → RanOn c i j budget m t m' → {r : ℕ} → r ≡ packed (stop_number t.stopped) t.count → Answers (run_of c (i ∷ j ∷ []) budget m) r m'
    run-made {t} h w =
        let x = run_on c i j budget (state_of m) in
        let y = both_yes c (i ∷ j ∷ []) told none in
        answers (is-accepted c m call y.0 y.1 (sym is ∙ g))
        (w ∙ rw (number-told x.answer x.count, count-told x.answer x.count, h.tells.number_is, h.tells.count_is) refl) h.is
