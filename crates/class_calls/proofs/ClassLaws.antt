-- Laws of a pupil: a separate start and run on any memory is the same, and a refused input is refused alone.
use Rattle.std.specs.Prelude.{◌≡◌, refl, Bool, true, false, not, List, [], ℕ, ◌≤◌, T, length}
use Rattle.std.proofs.Math.Path.{ap}
use Rattle.std.proofs.Common.{sym, ◌∙◌, subst, arith, le-leb}
use Rattle.std.proofs.Math.ListN.{get_or}
use Rattle.std.proofs.lemmas.List.{length-replicate}
use Rattle.std.specs.Bool.{passes}
use Rattle.language.specs.Limits as limit
use Rattle.language.specs.Program.{Program}
use Rattle.language.specs.Values.{State, Inputs}
use Rattle.machine.specs.Runs.{Run, run}
use Rattle.machine.specs.Steps.{step}
use Rattle.machine.proofs.StepLaws.{run-good}
use Rattle.machine.specs.WellFormed.{good_program, good_inputs, good_state, started}
use Rattle.machine.proofs.WellFormedLaws.{started-good}
use Rattle.layout.specs.Bounds.{Fine}
use Rattle.layout.proofs.CellLaws.{each_at}
use Rattle.layout.proofs.FineLaws.{good-fine}
use Rattle.layout.specs.Memory.{state_of, long_enough, good_memory, written}
use Rattle.layout.proofs.MemoryLaws.{written_back, written-good}
use Rattle.layout.specs.Table.{program_of, good_table}
use Rattle.layout.proofs.TableLaws.{table-facts}
use Rattle.calls.specs.Calls.{reply_number, reply_count, Result, run_reply, start_of, run_of}
use Rattle.calls.specs.Calls.Reply.{start_accepted}
use Rattle.calls.specs.Calls.Call.{start_on, run_on}
use Rattle.calls.proofs.OrderLaws.{is-61, is-accepted}
use Rattle.class_calls.specs.Class.{Pupil, inputs_of, refused_pupil, ran_pupil, told_of, empty_memory, separately, pupil}
use lib.Ieee.Bits.{is_true, is_false}

module _ (c w : List ℕ) (b : ℕ) (tc : T (good_table c)) where
  abbrev ins : Inputs
  ins = inputs_of w

  abbrev p : Program
  p = program_of c

  -- the run of a pupil, on the machine
  abbrev pub pupil_run : Run State
  pupil_run = run (step p ins) b started

  -- what it brings
  abbrev pub pupil_ran : Pupil
  pupil_ran = record {
    number = reply_number (run_reply pupil_run.answer pupil_run.count);
    count = reply_count (run_reply pupil_run.answer pupil_run.count);
    q1 = get_or pupil_run.state.store.outputs 0 [];
  }

  gp : T (good_program p)
  gp = (table-facts c tc).good

  separately-61 : (m : List ℕ) → good_inputs ins ≡ false → separately c w b m ≡ refused_pupil 61
  unfolding told_of
  separately-61 m f =
      ap (λ (x : Result). told_of x.reply (run_of c ins b x.cells)) (is-61 c m (start_on ins) (is_true (good_table c) tc) f)

  module _ (gi : T (good_inputs ins)) where
    gs : T (good_state p ins started)
    gs = started-good p ins gp

    gx : T (good_state p ins pupil_run.state)
    gx = run-good p ins gp gi b started gs

    pub pupil-fine : Fine pupil_run.state
    pupil-fine = good-fine p ins pupil_run.state gp gi gx

    module _ (m : List ℕ) (long : T (long_enough m)) where
      abbrev m₁ : List ℕ
      m₁ = written started m

      begun : start_of c ins m ≡ record { reply = start_accepted; cells = m₁ }
      begun = is-accepted c m (start_on ins) (is_true (good_table c) tc) (is_true (good_inputs ins) gi) (is_true (long_enough m) long)

      pub from_start : state_of m₁ ≡ started
      from_start = written_back started (good-fine p ins started gp gi gs) m

      pub memory-good : T (good_memory p ins m₁)
      memory-good = written-good p ins started gp gi gs m

      ran : run_of c ins b m₁ ≡ record { reply = run_reply pupil_run.answer pupil_run.count; cells = written pupil_run.state m₁ }
      ran =
          is-accepted c m₁ (run_on ins b) (is_true (good_table c) tc) (is_true (good_inputs ins) gi) (is_true (good_memory p ins m₁) memory-good)
          ∙ ap (λ (s : State). let y = run (step p ins) b s in record { reply = run_reply y.answer y.count; cells = written y.state m₁ }) from_start

      left : state_of (written pupil_run.state m₁) ≡ pupil_run.state
      left = written_back pupil_run.state pupil-fine m₁

      separately-ran : separately c w b m ≡ pupil_ran
      unfolding told_of
      separately-ran =
          ap (λ (x : Result). told_of x.reply (run_of c ins b x.cells)) begun
          ∙ ap (λ (y : Result). ran_pupil y) ran
          ∙ ap (λ (s : State). record {
            number = reply_number (run_reply pupil_run.answer pupil_run.count);
            count = reply_count (run_reply pupil_run.answer pupil_run.count);
            q1 = get_or s.store.outputs 0 [];
          }) left

  empty-long : T (long_enough empty_memory)
  empty-long = passes _ (le-leb limit.state (length empty_memory) (rw (length-replicate {A = ℕ} limit.state 0) (omega arith)))

  -- the pupil by the machine alone
  pub pupil-refused : good_inputs ins ≡ false → pupil c w b ≡ refused_pupil 61
  unfolding pupil
  pupil-refused f = separately-61 empty_memory f

  pub pupil-accepted : good_inputs ins ≡ true → pupil c w b ≡ pupil_ran
  unfolding pupil
  pupil-accepted e = separately-ran (passes _ e) empty_memory empty-long

  -- "the answer, count, Q1 and its length that a separate start and run would give": on whatever memory these are made
  pub alone : (m : List ℕ) → T (long_enough m)
      → pupil c w b ≡ told_of (start_of c ins m).reply (run_of c ins b (start_of c ins m).cells)
  alone m long = go (good_inputs ins) refl
    where
      go : (x : Bool) → good_inputs ins ≡ x → pupil c w b ≡ separately c w b m
      go true e = pupil-accepted e ∙ sym (separately-ran (passes _ e) m long)
      go false e = pupil-refused e ∙ sym (separately-61 m e)

  -- "A refused input has count 0, an empty Q1"
  pub refused-alone : T (not (good_inputs ins)) → pupil c w b ≡ record { number = 61; count = 0; q1 = [] }
  refused-alone h = pupil-refused (is_false (good_inputs ins) h)

  -- "as long as Q may be"
  pub q1-most : length (pupil c w b).q1 ≤ limit.output
  q1-most = go (good_inputs ins) refl
    where
      go : (x : Bool) → good_inputs ins ≡ x → length (pupil c w b).q1 ≤ limit.output
      go true e = subst (λ (y : Pupil). length y.q1 ≤ limit.output) (sym (pupil-accepted e))
          (each_at (λ w. length w ≤ limit.output) [] (omega arith) pupil_run.state.store.outputs (pupil-fine (passes _ e)).outputs_ok 0)
      go false e = subst (λ (y : Pupil). length y.q1 ≤ limit.output) (sym (pupil-refused e)) (omega arith)
