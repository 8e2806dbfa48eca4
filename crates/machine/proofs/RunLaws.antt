-- Laws of runs: a pause comes exactly at the budget, a stop leaves the state before the failing step, and budgets add up.
use Rattle.std.specs.Prelude.{◌≡◌, refl, ℕ, zero, suc, ◌+◌, ◌<◌}
use Rattle.std.proofs.Common.{ap, sym, ◌∙◌, suc-le-suc, suc-add, zero-add, not-suc-le-zero, le_of_suc-le-suc, arith}
use Rattle.machine.specs.Runs.{Outcome, Answer, Run, ran, after, run, goes_on, resumed, Goes, Says, Lawful}
use Rattle.machine.specs.Runs.Outcome.{stop, went}
use Rattle.machine.specs.Runs.Answer.{pause, stopped}
use Rattle.machine.specs.Runs.Goes.{here, on}
use Rattle.machine.specs.Runs.Says.{used_up, halted}

module _ {S : Type 0} (step : S → Outcome S) where
  says-after : {b c : ℕ} {t : S} {x : Answer} → Says step b c t x → Says step (suc b) (suc c) t x
  says-after (used_up e) = used_up (ap suc e)
  says-after (halted l e) = halted (suc-le-suc l) e

  lawful-after : (b : ℕ) (s : S) (k : S → Run S) → ((t : S) → Lawful step b t (k t)) → (o : Outcome S) → step s ≡ o
      → Lawful step (suc b) s (after s k o)
  lawful-after b s k h (stop n) e = record { goes = here; says = halted (omega arith) e }
  lawful-after b s k h (went t) e = record { goes = on e (h t).goes; says = says-after (h t).says }

  -- a run goes as many steps as it counts, and its answer says why it ends there
  pub run-lawful : (b : ℕ) (s : S) → Lawful step b s (run step b s)
  run-lawful zero s = record { goes = here; says = used_up refl }
  run-lawful (suc b) s = lawful-after b s (run step b) (run-lawful b) (step s) refl

  counted-on : (b c : ℕ) (s : S) (x : Answer)
      → let r = goes_on step b s c x in ran r.answer (suc r.count) r.state ≡ goes_on step b s (suc c) x
  counted-on b c s pause = let r = run step b s in ap (λ n. ran r.answer n r.state) (sym (suc-add c r.count))
  counted-on b c s (stopped n) = refl

  add-after : (b : ℕ) (s : S) (k l : S → Run S) → ((t : S) → l t ≡ resumed step b (k t)) → (o : Outcome S)
      → after s l o ≡ resumed step b (after s k o)
  add-after b s k l h (stop n) = refl
  add-after b s k l h (went t) =
      ap (λ r. ran r.answer (suc r.count) r.state) (h t) ∙ counted-on b (k t).count (k t).state (k t).answer

  -- a run of a + b is a run of a and then, where that paused, of b
  pub run-add : (a b : ℕ) (s : S) → run step (a + b) s ≡ resumed step b (run step a s)
  run-add zero b s = rw (zero-add b) (ap (λ n. ran (run step b s).answer n (run step b s).state) (sym (zero-add (run step b s).count)))
  run-add (suc a) b s = rw suc-add (add-after b s (run step a) (run step (a + b)) (run-add a b) (step s))

  -- For a loop that counts steps: one step more, and where it stands is where the run ends

  pub goes-snoc : {n : ℕ} {s t u : S} → Goes step n s t → step t ≡ went u → Goes step (suc n) s u
  goes-snoc here e = on e here
  goes-snoc (on d g) e = on d (goes-snoc g e)

  pub run-pause : {n : ℕ} {s t : S} → Goes step n s t → run step n s ≡ ran pause n t
  run-pause here = refl
  run-pause (on {n = n} {s = s} {t = t} d g) = ap (after s (run step n)) d ∙ ap (λ r. ran r.answer (suc r.count) r.state) (run-pause g)

  pub run-stop : {n k : ℕ} {s t : S} (b : ℕ) → Goes step n s t → n < b → step t ≡ stop k → run step b s ≡ ran (stopped k) n t
  run-stop zero g l e = absurd (not-suc-le-zero l)
  run-stop (suc b) (here {s = s}) l e = ap (after s (run step b)) e
  run-stop (suc b) (on {n = n} {s = s} {t = t} d g) l e =
      ap (after s (run step b)) d ∙ ap (λ r. ran r.answer (suc r.count) r.state) (run-stop {n = n} b g (le_of_suc-le-suc l) e)
