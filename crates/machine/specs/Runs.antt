-- Runs of any step under a budget: run "takes at most the budget of steps".
use Rattle.std.specs.Prelude.{◌≡◌, ℕ, zero, suc, ◌+◌, ◌<◌}

-- a step stops with a number, or goes on to a state
pub data Outcome (S : Type 0) : Type 0 where
  stop : ℕ → Outcome S
  went : S → Outcome S

pub data Answer : Type 0 where
  pause : Answer
  stopped : ℕ → Answer

-- "It answers pause, with the budget used up, or a stop; in both cases with the count of completed instructions."
pub record Run (S : Type 0) : Type 0 where
  pub answer : Answer
  pub count : ℕ
  pub state : S

module _ {S : Type 0} where
  abbrev pub ran : Answer → ℕ → S → Run S
  ran x n s = record { answer = x; count = n; state = s }

  -- One step before the rest of a run. "STOP and failing instructions count none"; "A stop leaves the state before the step."
  abbrev pub after : S → (S → Run S) → Outcome S → Run S
  after s k (stop n) = ran (stopped n) 0 s
  after s k (went t) = let r = k t in ran r.answer (suc r.count) r.state

module _ {S : Type 0} (step : S → Outcome S) where
  -- "It pauses as soon as the count equals the budget, before the next instruction is looked at, so a budget of 0 always pauses."
  abbrev pub run : ℕ → S → Run S
  run zero s = ran pause 0 s
  run (suc k) s = after s (run k) (step s)

  -- a run that paused goes on for a budget of b; one that stopped does not
  abbrev pub goes_on : ℕ → S → ℕ → Answer → Run S
  goes_on b s c pause = let r = run b s in ran r.answer (c + r.count) r.state
  goes_on b s c (stopped n) = ran (stopped n) c s

  abbrev pub resumed : ℕ → Run S → Run S
  resumed b r = goes_on b r.state r.count r.answer

  -- s becomes t in n steps
  pub data Goes : ℕ → S → S → Type 0 where
    here : {s : S} → Goes 0 s s
    on : {n : ℕ} {s t u : S} → step s ≡ went t → Goes n t u → Goes (suc n) s u

  -- what an answer says: a pause has used the budget up, a stop has not, and names why the step there failed
  pub data Says (b c : ℕ) (t : S) : Answer → Type 0 where
    used_up : c ≡ b → Says b c t pause
    halted : {n : ℕ} → c < b → step t ≡ stop n → Says b c t (stopped n)

  pub record Lawful (b : ℕ) (s : S) (r : Run S) : Type 0 where
    pub goes : Goes r.count s r.state
    pub says : Says b r.count r.state r.answer
