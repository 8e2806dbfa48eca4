-- The loop of a run: what was stepped so far is a run of the specification.
use mathlib.Core.Path.{◌≡◌, refl, ap, ◌∙◌}
use mathlib.Core.List.{List}
use Prim.Native.Nat.{ℕ, ◌+◌, ◌≤◌, ◌<◌}
use native.Mathlib.Numerals.{add-one}
use native.Mathlib.Omega.{arith}
use lib.Dec.{T}
use Rattle.language.specs.Program.{Program}
use Rattle.language.specs.Values.{State}
use Rattle.machine.specs.Runs.{ran, Goes}
use Rattle.machine.specs.Runs.Answer.{pause, stopped}
use Rattle.machine.specs.Runs.Goes.{here}
use Rattle.machine.proofs.RunLaws.{goes-snoc, run-pause, run-stop}
use Rattle.machine.specs.Steps.{step}
use Rattle.machine.proofs.StepLaws.{step-good}
use Rattle.machine.specs.WellFormed.{good_program}
use Rattle.layout.specs.Memory.{state_of, written}
use Rattle.layout.proofs.FineLaws.{good-fine}
use Rattle.layout.proofs.MemoryLaws.{memory-facts, memory-fine}
use Rattle.layout.specs.Table.{program_of}
use Rattle.layout.proofs.TableLaws.{table-facts}
use lib.ListN.{length}
use Rattle.resting.specs.Resting.{Openable}
use Rattle.state.specs.Working.{HoldsState}
use Rattle.language.specs.Limits as limit
use Rattle.stepping.specs.Below.Stepping.{inputs, Steppable, Stepped}
use Rattle.stepping.specs.Below.SteppingLaws as laws
use Rattle.running.specs.Running.{stop_number, run_on, RanTo, Runnable, RanOn}
use Rattle.running.specs.declared.Ran.{Ran}

-- after `count` steps from the state s₀ a well-formed state is held
pub record Going (c i j : List ℕ) (s₀ σ : State) (count budget : ℕ) : Type 0 where
  pub ready : Steppable c i j σ
  pub goes : Goes (step (program_of c) (inputs i j)) count s₀ σ
  pub most : count ≤ budget

module _ {c i j : List ℕ} {σ : State} (pre : Steppable c i j σ) where
  pub going-none : (budget : ℕ) → Going c i j σ σ 0 budget
  going-none budget = record { ready = pre; goes = here; most = omega arith }

  held : HoldsState σ σ
  held = record { is = refl; fine = good-fine (program_of c) (inputs i j) σ (table-facts c pre.table).good pre.right pre.good }

module _ {c i j : List ℕ} {s₀ σ : State} {count budget : ℕ} (u : Going c i j s₀ σ count budget) {told : ℕ} {σ' : State} (h : Stepped c i j σ told σ')
    (b : count < budget) where
  abbrev P : Program
  P = program_of c

  -- one step more
  pub going_more : told ≡ 0 → Going c i j s₀ σ' (count + 1) budget
  going_more z =
      let r = u.ready in
      record {
        ready = record {
          table = r.table;
          right = r.right;
          good = step-good P (inputs i j) (table-facts c r.table).good r.right σ r.good (laws.gone-to h z);
        };
        goes = rw add-one (goes-snoc (step P (inputs i j)) u.goes (laws.gone-to h z));
        most = omega arith;
      }

  -- a stop
  pub ran-stop : (told ≡ 0 → ⊥) → {r : Ran} → stop_number r.stopped ≡ told → r.count ≡ count → RanTo c i j budget s₀ r σ'
  ran-stop w {r} x y =
      let e : run_on c i j budget s₀ ≡ ran (stopped told) count σ =
      run-stop (step P (inputs i j)) budget u.goes b (laws.stopped h w) in
      record { tells = record { number_is = rw e x; count_is = rw e y }; holds = rw e (laws.kept h w) }

module _ {c i j : List ℕ} {s₀ σ : State} {count budget : ℕ} (u : Going c i j s₀ σ count budget) where
  pub ran-pause : budget ≤ count → {r : Ran} → stop_number r.stopped ≡ 81 → r.count ≡ budget → RanTo c i j budget s₀ r σ
  ran-pause b {r} x y =
      let q : count ≡ budget = omega (arith, u.most) in
      let e : run_on c i j budget s₀ ≡ ran pause budget σ = rw (← q) (run-pause (step (program_of c) (inputs i j)) u.goes) in
      record { tells = record { number_is = rw e x; count_is = rw e y }; holds = rw e (held u.ready) }

-- ---- on lent memory

module _ {c i j m : List ℕ} (pre : Runnable c i j m) where
  abbrev program_good : T (good_program (program_of c))
  program_good = (table-facts c pre.table).good

  pub openable : Openable m
  openable =
      let rest = memory-facts (program_of c) (inputs i j) m pre.memory in
      record {
        long = rest.long;
        cells = rest.cells;
        fine = memory-fine (program_of c) (inputs i j) m program_good pre.right pre.memory;
      }

  pub steppable : {σ : State} → HoldsState σ (state_of m) → Steppable c i j σ
  steppable h =
      record {
        table = pre.table;
        right = pre.right;
        good = rw h.is (memory-facts (program_of c) (inputs i j) m pre.memory).good;
      }

  pub memory-long : limit.state ≤ length m
  memory-long = (memory-facts (program_of c) (inputs i j) m pre.memory).long

  pub ran_on : {σ : State} → HoldsState σ (state_of m) → {budget : ℕ} {r : Ran} {σ' : State} → RanTo c i j budget σ r σ' → {m' : List ℕ} → m' ≡ written σ' m
      → RanOn c i j budget m r m'
  ran_on h {budget} k q =
      record {
        tells = rw h.is at k.tells;
        is = q ∙ ap (λ (s : State). written s m) (k.holds.is ∙ ap (λ (s : State). (run_on c i j budget s).state) h.is);
      }
