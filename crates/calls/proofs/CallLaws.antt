-- Laws of single calls: how one is decided, how a run ends, and what an accepted call leaves.
use Rattle.std.specs.Prelude.{◌≡◌, refl, ◌↔◌, ◌≢◌, Bool, true, false, ◌&&◌, List, [], ◌∷◌, ℕ, T, length}
use Rattle.std.proofs.Common.{ap, sym, subst, arith, le→leb}
use Rattle.lists.specs.Lists.{among}
use Rattle.lists.specs.ListLaws.{T-left, T-right}
use Rattle.language.specs.Limits as limit
use Rattle.language.specs.Program.{Program}
use Rattle.language.specs.Values.{State, Inputs}
use Rattle.layout.specs.Below.Runs.{Answer, run, Goes, Says}
use Rattle.layout.specs.Below.Runs.Outcome.{stop}
use Rattle.layout.specs.Below.Runs.Answer.{pause, stopped}
use Rattle.layout.specs.Below.Runs.Says.{used_up, halted}
use Rattle.layout.specs.Below.Steps.{numbers, refusals, step}
use Rattle.layout.specs.Below.WellFormed.{good_program, good_inputs, good_state, started}
use Rattle.layout.proofs.Below.RunLaws.{run-lawful}
use Rattle.layout.proofs.Below.WellFormedLaws.{started-good}
use Rattle.layout.proofs.Below.MachineStepLaws.{step-first, run-good}
use Rattle.layout.specs.Memory.{state_of, good_memory, written}
use Rattle.layout.specs.Table.{program_of, good_table}
use Rattle.layout.proofs.FineLaws.{good-fine}
use Rattle.layout.proofs.MemoryLaws.{written_back, written-good, memory-facts}
use Rattle.layout.proofs.TableLaws.{table-facts}
use Rattle.calls.specs.Calls.{Call, call_inputs, Result, memory_passes, call_questions, run_reply, accepted_result, refused_or, result_of, start_of, run_of}
use Rattle.calls.specs.Calls.Reply.{refusal, start_accepted}
use Rattle.calls.specs.Calls.Call.{start_on, run_on}
use Rattle.calls.specs.Answers.{Accepted, FirstNo, RunEnds}
use Rattle.calls.proofs.QuestionLaws.{none-no, first-at, step-number, no-62, no-63}

-- ---- how a call is decided

-- by the first question answered no, or each is answered yes
pub data Decision (c m : List ℕ) (x : Call) : Result → Type 0 where
  answered_no : {number : ℕ} → FirstNo number (call_questions c x m) → Decision c m x (record { reply = refusal number; cells = m })
  answered_yes : refusals (call_questions c x m) ≡ [] → T (good_table c) → T (good_inputs (call_inputs x)) → T (memory_passes c x m)
      → Decision c m x (accepted_result c x m)

pub decided : (c m : List ℕ) (x : Call) → Decision c m x (result_of c x m)
unfolding result_of
decided c m x = go (refusals (call_questions c x m)) refl
  where
    a : Bool
    a = good_table c

    b : Bool
    b = good_inputs (call_inputs x)

    d : Bool
    d = memory_passes c x m

    go : (ns : List ℕ) → refusals (call_questions c x m) ≡ ns → Decision c m x (refused_or (accepted_result c x m) m ns)
    go [] e =
        let h = none-no (call_questions c x m) e in
        let k = T-right a (b && (d && true)) h in
        answered_yes e (T-left a (b && (d && true)) h) (T-left b (d && true) k) (T-left d true (T-right b (d && true) k))
    go (n ∷ ns) e = answered_no (ns, e)

-- an accepted call answers no refusal
run-accepted : (a : Answer) (count number : ℕ) → run_reply a count ≢ refusal number
run-accepted pause count number e = let z : ◌≡◌ {A = ℕ} 0 1 = cc in omega arith
run-accepted (stopped k) count number e = let z : ◌≡◌ {A = ℕ} 0 1 = cc in omega arith

pub yes-accepted : (c m : List ℕ) (x : Call) → Accepted (accepted_result c x m).reply
yes-accepted c m (start_on ins) number e = let z : ◌≡◌ {A = ℕ} 0 1 = cc in omega arith
yes-accepted c m (run_on ins budget) number e =
    let r = run (step (program_of c) ins) budget (state_of m) in run-accepted r.answer r.count number e

module _ (c m : List ℕ) (x : Call) where
  same-refusal : {i j : ℕ} → refusal i ≡ refusal j → i ≡ j
  same-refusal e = cc

  same_first : {i j : ℕ} → FirstNo i (call_questions c x m) → FirstNo j (call_questions c x m) → i ≡ j
  same_first {i} {j} h k = let d = h.1 in let e = k.1 in cc

  none_first : {i : ℕ} → refusals (call_questions c x m) ≡ [] → FirstNo i (call_questions c x m) → ⊥
  none_first e h = let d = h.1 in let z : ◌≡◌ {A = ℕ} 0 1 = cc in omega arith

  -- "A start or run is refused just when one of our questions on the call itself is answered no, with the first one's number."
  pub refused-by : (number : ℕ) → ((result_of c x m).reply ≡ refusal number) ↔ FirstNo number (call_questions c x m)
  refused-by number = go (result_of c x m) (decided c m x)
    where
      go : (r : Result) → Decision c m x r → (r.reply ≡ refusal number) ↔ FirstNo number (call_questions c x m)
      go r (answered_no {number = n} h) =
          (λ e. subst (λ (k : ℕ). FirstNo k (call_questions c x m)) (same-refusal e) h, λ h'. ap refusal (same_first h h'))
      go r (answered_yes q a b d) = (λ e. absurd (yes-accepted c m x number e), λ h. absurd (none_first q h))

  -- "Refused calls change nothing."
  pub refused-same : (number : ℕ) → (result_of c x m).reply ≡ refusal number → (result_of c x m).cells ≡ m
  refused-same number = go (result_of c x m) (decided c m x)
    where
      go : (r : Result) → Decision c m x r → r.reply ≡ refusal number → r.cells ≡ m
      go r (answered_no h) e = refl
      go r (answered_yes q a b d) e = absurd (yes-accepted c m x number e)

  -- "Run checks the table, then the inputs, then the state", and so does start
  pub table-first : good_table c ≡ false → (result_of c x m).reply ≡ refusal 62
  unfolding result_of
  table-first e = rw e

  pub inputs-second : good_table c ≡ true → good_inputs (call_inputs x) ≡ false → (result_of c x m).reply ≡ refusal 61
  unfolding result_of
  inputs-second e f = rw (e, f)

  pub memory-third : good_table c ≡ true → good_inputs (call_inputs x) ≡ true → memory_passes c x m ≡ false → (result_of c x m).reply ≡ refusal 63
  unfolding result_of
  memory-third e f h = rw (e, f, h)

  -- a well-formed table does not bring 62, a memory that passes does not bring 63
  pub good-not-62 : T (good_table c) → (result_of c x m).reply ≢ refusal 62
  good-not-62 t e =
      no-62 (good_table c) (good_inputs (call_inputs x)) (memory_passes c x m) t (first-at 62 (call_questions c x m) ((refused-by 62).0 e))

  pub good-not-63 : T (memory_passes c x m) → (result_of c x m).reply ≢ refusal 63
  good-not-63 t e =
      no-63 (good_table c) (good_inputs (call_inputs x)) (memory_passes c x m) t (first-at 63 (call_questions c x m) ((refused-by 63).0 e))

-- ---- what an accepted call leaves

-- a stop's number is none of a pause
stop-not-pause : (p : Program) (ins : Inputs) (s : State) {k : ℕ} → step p ins s ≡ stop k → k ≢ 81
stop-not-pause p ins s {k} e q = subst (λ (n : ℕ). T (among n numbers)) q (step-number p ins s k (step-first p ins s e))

ends_by : (p : Program) (ins : Inputs) (budget : ℕ) (m : List ℕ) (a : Answer) (n : ℕ) (t : State) → state_of (written t m) ≡ t
    → Goes (step p ins) n (state_of m) t → Says (step p ins) budget n t a → RunEnds p ins budget m (record { reply = run_reply a n; cells = written t m })
ends_by p ins budget m pause n t back g (used_up e) =
    record { counts = rw back g; pauses = (λ q. e, λ q. refl); stops = λ q. absurd (q refl) }
ends_by p ins budget m (stopped k) n t back g (halted l e) =
    record {
      counts = rw back g;
      pauses = (λ q. absurd (stop-not-pause p ins t e q), λ q. absurd (omega arith));
      stops = λ q. (l, rw back (step-first p ins t e));
    }

module _ (c m : List ℕ) (tc : T (good_table c)) (ins : Inputs) (gi : T (good_inputs ins)) where
  abbrev gp : T (good_program (program_of c))
  gp = (table-facts c tc).good

  left_back : (s : State) → T (good_state (program_of c) ins s) → state_of (written s m) ≡ s
  left_back s g = written_back s (good-fine (program_of c) ins s gp gi g) m

  abbrev start_good : T (good_state (program_of c) ins started)
  start_good = started-good (program_of c) ins gp

  pub start_left : state_of (written started m) ≡ started
  start_left = left_back started start_good

  module _ (h : T (good_memory (program_of c) ins m)) where
    pub handed-good : T (good_state (program_of c) ins (state_of m))
    handed-good = (memory-facts (program_of c) ins m h).good

    ran-good : (budget : ℕ) → T (good_state (program_of c) ins (run (step (program_of c) ins) budget (state_of m)).state)
    ran-good budget = run-good (program_of c) ins gp gi budget (state_of m) handed-good

    pub run_ends : (budget : ℕ) → RunEnds (program_of c) ins budget m (accepted_result c (run_on ins budget) m)
    run_ends budget =
        let r = run (step (program_of c) ins) budget (state_of m) in
        let w = run-lawful (step (program_of c) ins) budget (state_of m) in
        ends_by (program_of c) ins budget m r.answer r.count r.state (left_back r.state (ran-good budget)) w.goes w.says

module _ (c m : List ℕ) where
  good_left : (x : Call) → T (good_table c) → T (good_inputs (call_inputs x)) → T (memory_passes c x m)
      → T (good_memory (program_of c) (call_inputs x) (accepted_result c x m).cells)
  good_left (start_on ins) tc gi h = written-good (program_of c) ins started (gp c m tc ins gi) gi (start_good c m tc ins gi) m
  good_left (run_on ins budget) tc gi h =
      written-good (program_of c) ins (run (step (program_of c) ins) budget (state_of m)).state (gp c m tc ins gi) gi (ran-good c m tc ins gi h budget) m

  -- "An accepted run, on any other table too, .."
  pub accepted-run : (ins : Inputs) (budget : ℕ) → Accepted (run_of c ins budget m).reply → RunEnds (program_of c) ins budget m (run_of c ins budget m)
  accepted-run ins budget = go (run_of c ins budget m) (decided c m (run_on ins budget))
    where
      go : (r : Result) → Decision c m (run_on ins budget) r → Accepted r.reply → RunEnds (program_of c) ins budget m r
      go r (answered_no {number = n} h) a = absurd (a n refl)
      go r (answered_yes q tc gi h) a = run_ends c m tc ins gi h budget

  -- an accepted start answers 80 and leaves the state that start makes
  pub accepted-start : (ins : Inputs) → Accepted (start_of c ins m).reply
      → ((start_of c ins m).reply ≡ start_accepted) × (state_of (start_of c ins m).cells ≡ started)
  accepted-start ins = go (start_of c ins m) (decided c m (start_on ins))
    where
      go : (r : Result) → Decision c m (start_on ins) r → Accepted r.reply → (r.reply ≡ start_accepted) × (state_of r.cells ≡ started)
      go r (answered_no {number = n} h) a = absurd (a n refl)
      go r (answered_yes q tc gi h) a = (refl, start_left c m tc ins gi)

  still-passes : (y : Call) → T (good_memory (program_of c) (call_inputs y) m) → T (memory_passes c y m)
  still-passes (start_on ins) h = le→leb limit.state (length m) (memory-facts (program_of c) ins m h).long
  still-passes (run_on ins budget) h = h

-- "no state from an accepted start or run, with the same table and inputs, brings 63"
pub again-not-63 : (c m : List ℕ) (x y : Call) → Accepted (result_of c x m).reply → call_inputs y ≡ call_inputs x
    → (result_of c y (result_of c x m).cells).reply ≢ refusal 63
again-not-63 c m x y = go (result_of c x m) (decided c m x)
  where
    go : (r : Result) → Decision c m x r → Accepted r.reply → call_inputs y ≡ call_inputs x → (result_of c y r.cells).reply ≢ refusal 63
    go r (answered_no {number = n} h) a e = absurd (a n refl)
    go r (answered_yes q tc gi h) a e =
        let w : List ℕ = (accepted_result c x m).cells in
        good-not-63 c w y (still-passes c w y (subst (λ (ins : Inputs). T (good_memory (program_of c) ins w)) (sym e) (good_left c m x tc gi h)))
