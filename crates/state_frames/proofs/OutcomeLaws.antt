-- Laws of outcomes: calls see the first 40,960 cells of a memory only; so a state that is written and read back runs on as it would have.
use Rattle.std.proofs.Math.Path.{◌≡◌, refl, ap}
use Rattle.std.proofs.Common.{sym, ◌∙◌, arith, length-take, take_at, leb-true, leb-false, le-leb}
use Rattle.std.specs.Prelude.{Bool, false, ◌&&◌, ℕ, T, length, take, drop}
use Rattle.std.proofs.Math.Bool.{true}
use mathlib.Core.List.{List, [], ◌∷◌}
use Rattle.std.proofs.Math.Dec.{leb}
use Rattle.std.proofs.lemmas.Bool.{lt-leb}
use Rattle.language.specs.Limits as limit
use Rattle.lists.specs.ListLaws.{T-left, T-right}
use Rattle.lists.specs.Lists.{bytes_equal, if_any}
use Rattle.language.specs.Program.{Program}
use Rattle.language.specs.Values.{State, Inputs}
use Rattle.machine.specs.Runs.{run}
use Rattle.machine.proofs.StepLaws.{run-good}
use Rattle.machine.specs.Steps.{Question, refusals, step}
use Rattle.machine.specs.WellFormed.{good_program, good_inputs, good_state, started}
use Rattle.machine.proofs.WellFormedLaws.{started-good}
use Rattle.layout.proofs.FineLaws.{good-fine}
use Rattle.layout.specs.Memory.{state_cells, state_in, state_of, long_enough, good_memory, written}
use Rattle.layout.proofs.MemoryLaws.{length-state_cells, memory-facts}
use Rattle.layout.specs.Table.{program_of, good_table}
use Rattle.layout.proofs.TableLaws.{table-facts}
use Rattle.calls.specs.Calls.{Call, call_inputs, Result, memory_passes, call_questions, run_reply, accepted_result, refused_or, result_of}
use Rattle.calls.specs.Calls.Call.{start_on, run_on}
use Rattle.calls.specs.Filling.Filling.{kept, fills}
use Rattle.calls.proofs.QuestionLaws.{none-no}
use Rattle.state_frames.specs.Saved.{saved}
use Rattle.state_frames.specs.Keeping.{write_questions, write_of, Reading, read_accepted, read_of}
use Rattle.state_frames.proofs.KeepingLaws.{read_back}
use Rattle.state_frames.specs.Outcomes.{outcomes, RunsOn}

-- ---- two memories with the same state's cells

long-by : (m : List ℕ) → long_enough m ≡ long_enough (take limit.state m)
long-by m = go (leb limit.state (length m)) refl
  where
    go : (b : Bool) → leb limit.state (length m) ≡ b → b ≡ leb limit.state (length (take limit.state m))
    go true e = let h = leb-true limit.state (length m) e in sym (le-leb limit.state (length (take limit.state m)) (simp length-take (omega arith)))
    go false e = let h = leb-false limit.state (length m) e in sym (lt-leb limit.state (length (take limit.state m)) (simp length-take (omega arith)))

-- results whose answers and states' cells are the same
pub record SameResult (a b : Result) : Type 0 where
  pub replies : a.reply ≡ b.reply
  pub cells : take limit.state a.cells ≡ take limit.state b.cells

-- the cells of a well-formed state in front of a memory
front : (p : Program) (ins : Inputs) (s : State) → T (good_program p) → T (good_inputs ins) → T (good_state p ins s) → (m : List ℕ)
    → take limit.state (written s m) ≡ state_cells s
unfolding written
front p ins s gp gi g m = take_at (state_cells s) (drop limit.state m) limit.state (length-state_cells s (good-fine p ins s gp gi g))

module _ (c m n : List ℕ) (e : take limit.state m ≡ take limit.state n) where
  pub same_state : state_of m ≡ state_of n
  unfolding state_of
  same_state = ap state_in e

  same-long : long_enough m ≡ long_enough n
  same-long = long-by m ∙ ap long_enough e ∙ sym (long-by n)

  same_good : (p : Program) (ins : Inputs) → good_memory p ins m ≡ good_memory p ins n
  unfolding good_memory
  same_good p ins =
      let l = same-long in
      let q = same_state in
      λ j. l j && bytes_equal (state_cells (q j)) (e j) && good_state p ins (q j)

  same-passes : (x : Call) → memory_passes c x m ≡ memory_passes c x n
  same-passes (start_on ins) = same-long
  same-passes (run_on ins budget) = same_good (program_of c) ins

  same-refusals : (x : Call) → refusals (call_questions c x m) ≡ refusals (call_questions c x n)
  same-refusals x = ap (λ (d : Bool). refusals ((62, good_table c) ∷ (61, good_inputs (call_inputs x)) ∷ (63, d) ∷ [])) (same-passes x)

  accepted-same : (x : Call) → T (good_table c) → T (good_inputs (call_inputs x)) → T (memory_passes c x m)
      → SameResult (accepted_result c x m) (accepted_result c x n)
  accepted-same (start_on ins) tc gi h =
      let p = program_of c in
      let gp = (table-facts c tc).good in
      let g = started-good p ins gp in
      record { replies = refl; cells = front p ins started gp gi g m ∙ sym (front p ins started gp gi g n) }
  accepted-same (run_on ins budget) tc gi h =
      let p = program_of c in
      let gp = (table-facts c tc).good in
      let r = run (step p ins) budget (state_of m) in
      let r' = run (step p ins) budget (state_of n) in
      let q : r ≡ r' = ap (run (step p ins) budget) same_state in
      let g = run-good p ins gp gi budget (state_of m) (memory-facts p ins m h).good in
      let g' : T (good_state p ins r'.state) = rw q at g in
      record {
        replies = λ j. run_reply (q j).answer (q j).count;
        cells = front p ins r.state gp gi g m ∙ ap (λ k. state_cells k.state) q ∙ sym (front p ins r'.state gp gi g' n);
      }

  -- a call answers and leaves the same
  pub result-beyond : (x : Call) → SameResult (result_of c x m) (result_of c x n)
  unfolding result_of
  result-beyond x = rw (← same-refusals x) (go (refusals (call_questions c x m)) refl)
    where
      go : (ns : List ℕ) → refusals (call_questions c x m) ≡ ns → SameResult (refused_or (accepted_result c x m) m ns) (refused_or (accepted_result c x n) n ns)
      go [] q =
          let a = good_table c in
          let b = good_inputs (call_inputs x) in
          let d = memory_passes c x m in
          let h = none-no (call_questions c x m) q in
          let k = T-right a (b && (d && true)) h in
          accepted-same x (T-left a (b && (d && true)) h) (T-left b (d && true) k) (T-left d true (T-right b (d && true) k))
      go (k ∷ ns) q = record { replies = refl; cells = e }

-- and so does every list of calls
pub outcomes-beyond : (c : List ℕ) (xs : List Call) (m n : List ℕ) → take limit.state m ≡ take limit.state n → outcomes c xs m ≡ outcomes c xs n
unfolding outcomes
outcomes-beyond c [] m n e = refl
outcomes-beyond c (x ∷ xs) m n e =
    let r = result-beyond c m n e x in
    let t = outcomes-beyond c xs (result_of c x m).cells (result_of c x n).cells r.cells in
    let a = r.replies in
    let b = r.cells in
    λ j. record { reply = a j; state_cells = b j } ∷ t j

-- ---- the writer's call

module _ (c : List ℕ) (ins : Inputs) (m : List ℕ) (room : ℕ) where
  -- each of its three questions is answered yes
  pub record WriteYes : Type 0 where
    pub table_good : T (good_table c)
    pub inputs_good : T (good_inputs ins)
    pub state_good : T (good_memory (program_of c) ins m)
    pub fits : T (leb (length (saved (state_of m))) room)

  abbrev asked : List Question
  asked = write_questions c ins m room

  -- what is written is the state, saved, after three yeses
  pub written-yes : (number : ℕ) (t : List ℕ) → write_of c ins m room ≡ fills number t → WriteYes × (number ≡ 80) × (t ≡ saved (state_of m))
  unfolding write_of
  written-yes number t = go (refusals asked) refl
    where
      go : (ns : List ℕ) → refusals asked ≡ ns → if_any (fills 80 (saved (state_of m))) kept ns ≡ fills number t
          → WriteYes × (number ≡ 80) × (t ≡ saved (state_of m))
      go [] e q =
          let a = good_table c in
          let b = good_inputs ins in
          let g = good_memory (program_of c) ins m in
          let f = leb (length (saved (state_of m))) room in
          let h1 = none-no asked e in
          let h2 = T-right a (b && (g && f && true)) h1 in
          let h3 = T-left (g && f) true (T-right b (g && f && true) h2) in
          (record { table_good = T-left a (b && (g && f && true)) h1; inputs_good = T-left b (g && f && true) h2; state_good = T-left g f h3; fits = T-right g f h3 }, (cc), (cc))
      go (k ∷ ns) e q = absurd (let z : ◌≡◌ {A = ℕ} 0 1 = cc in omega arith)

-- "A state written and read back runs on, with the same table, inputs and budgets, to the same answers and states"
pub runs_on : (c : List ℕ) (ins : Inputs) (m : List ℕ) (room number : ℕ) (t n : List ℕ) → write_of c ins m room ≡ fills number t → T (long_enough n)
    → RunsOn c m (read_of c ins t n)
runs_on c ins m room number t n e h =
    let w = written-yes c ins m room number t e in
    let y = w.0 in
    let p = program_of c in
    let s = state_of m in
    let gp = (table-facts c y.table_good).good in
    let f = memory-facts p ins m y.state_good in
    let r : read_of c ins t n ≡ read_accepted s n =
    ap (λ (u : List ℕ). read_of c ins u n) w.2 ∙ read_back c ins s n y.table_good y.inputs_good f.good h in
    let cells : take limit.state (read_of c ins t n).cells ≡ take limit.state m =
    ap (λ (x : Reading). take limit.state x.cells) r ∙ front p ins s gp y.inputs_good f.good n ∙ f.cells in
    record {
      accepted = ap (λ (x : Reading). x.number) r;
      same_cells = cells;
      same_state = same_state c (read_of c ins t n).cells m cells;
      same_outcomes = λ xs. outcomes-beyond c xs (read_of c ins t n).cells m cells;
    }
