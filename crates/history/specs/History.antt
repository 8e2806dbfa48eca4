-- A list of starts and runs on one table and one state memory, and what is followed along it. "Each call gets the table as load left it and the state as
-- the last call left it".
use Rattle.std.specs.Prelude.{List, [], ◌∷◌, ℕ, zero, suc, ◌+◌}
use Rattle.language.specs.Program.{Program}
use Rattle.language.specs.Values.{State, Inputs}
use Rattle.machine.specs.Runs.{Outcome}
use Rattle.machine.specs.Runs.Outcome.{stop, went}
use Rattle.machine.specs.Steps.{step}
use Rattle.machine.specs.WellFormed.{started}
use Rattle.layout.specs.Memory.{state_of}
use Rattle.calls.specs.Calls.{Call, call_inputs, Reply, Result, result_of}
use Rattle.calls.specs.Calls.Reply.{refusal, start_accepted, run_paused, run_stopped}

-- a state, and the inputs of the call that met it first
pub record Visit : Type 0 where
  pub ins : Inputs
  pub state : State

abbrev pub visit : Inputs → State → Visit
visit ins s = record { ins = ins; state = s }

-- The states since the last accepted start, the newest first: the one that it made, then one for each step. Before any accepted start, since the one that
-- the first accepted run was handed. Empty until a call is accepted
abbrev pub Trail : Type 0
Trail = List Visit

module _ (p : Program) (ins : Inputs) where
  -- the trail after n steps more from s, on these inputs
  abbrev pub stepped_to : (State → Trail → Trail) → Trail → Outcome State → Trail
  stepped_to rest tr (stop number) = tr
  stepped_to rest tr (went t) = rest t (visit ins t ∷ tr)

  abbrev pub trail_on : ℕ → State → Trail → Trail
  trail_on zero s tr = tr
  trail_on (suc n) s tr = stepped_to (trail_on n) tr (step p ins s)

-- a trail begins with the state that the first accepted run was handed
abbrev pub begun : Inputs → State → Trail → Trail
begun ins s [] = visit ins s ∷ []
begun ins s (v ∷ tr) = v ∷ tr

-- What is followed: the last accepted start's state (before any, the one first handed in), the sum of the counts of the runs since, and the trail
pub record Past : Type 0 where
  pub base : State
  pub count : ℕ
  pub trail : Trail

-- A call of the list: what it answered and left, and what is followed after it
pub record Moment : Type 0 where
  pub result : Result
  pub past : Past

module _ (p : Program) where
  -- after an accepted run of n steps on the memory m
  abbrev pub past_on : Inputs → ℕ → List ℕ → Past → Past
  past_on ins n m h =
      record { base = h.base; count = h.count + n; trail = trail_on p ins n (state_of m) (begun ins (state_of m) h.trail) }

  -- after a call on the memory m, by its reply
  abbrev pub past_after : Call → List ℕ → Reply → Past → Past
  past_after x m (refusal number) h = h
  past_after x m start_accepted h = record { base = started; count = 0; trail = visit (call_inputs x) started ∷ [] }
  past_after x m (run_paused n) h = past_on (call_inputs x) n m h
  past_after x m (run_stopped number n) h = past_on (call_inputs x) n m h

  -- the whole list, from the memory m on; c is the table
  abbrev pub moments : List ℕ → List Call → List ℕ → Past → List Moment
  moments c [] m h = []
  moments c (x ∷ xs) m h =
      let r = result_of c x m in
      let k = past_after x m r.reply h in
      record { result = r; past = k } ∷ moments c xs r.cells k

  abbrev pub history : List ℕ → List Call → List ℕ → List Moment
  history c xs m = moments c xs m (record { base = state_of m; count = 0; trail = [] })
