-- One pupil: start, run, and Q1.
use mathlib.Core.Path.{◌≡◌, refl, ap, sym, ◌∙◌, subst}
use mathlib.Core.Bool.{Bool, true, false}
use mathlib.Core.List.{List, [], ◌∷◌, ◌++◌}
use Prim.Native.Nat.{ℕ}
use native.Mathlib.Nat.{add-zero}
use native.Mathlib.Omega.{arith}
use lib.Dec.{T}
use lib.ListN.{length, get_or, take, drop, take-append-drop}
use borrow.Author.Tests.{le-leb}
use Rattle.std.specs.Bool.{passes}
use Rattle.calls.proofs.AnswerLaws.{count-told}
use Rattle.language.specs.Limits as limit
use Rattle.language.specs.Values.{State}
use Rattle.machine.specs.Runs.{Answer, Run, run}
use Rattle.machine.specs.Runs.Answer.{pause, stopped}
use Rattle.machine.specs.Steps.{step}
use Rattle.machine.proofs.StepLaws.{run-good}
use Rattle.machine.specs.WellFormed.{good_inputs, good_state, started}
use Rattle.machine.proofs.WellFormedLaws.{started-good}
use Rattle.layout.specs.Memory.{state_of, long_enough, good_memory, written}
use Rattle.layout.proofs.MemoryLaws.{written_back, written-good, memory-facts}
use Rattle.layout.specs.Table.{program_of}
use Rattle.layout.proofs.TableLaws.{table-facts}
use Rattle.cells.specs.Cells.{pasted}
use Rattle.calls.specs.Calls.{reply_number, run_reply}
use Rattle.running.specs.Running.{answer_number, stop_number, run_on, Runnable, RanOn}
use Rattle.running.specs.declared.Ran.{Ran}
use Rattle.viewing.specs.Viewing.{Rests, Shows}
use Rattle.class_calls.specs.Class.{Pupil, inputs_of, shown, pupil, result_cells}
use Rattle.class_calls.proofs.ClassLaws.{pupil-fine, from_start, memory-good, pupil-refused, pupil-accepted}
use Rattle.class_running.specs.ClassRunning.{Showable, Shown, Seated, Answered}
use Rattle.calls.specs.declared.Question.TheVariants as code
use Rattle.std.specs.Prelude.{Ok, Err}

pub shown-so : {m b b' l : List ℕ} {at r : ℕ} → Shows m l → b' ≡ pasted b at l → r ≡ length l → Shown m b at r b'
shown-so {m} {b} {b'} {l} {at} s w e = record { is = w ∙ ap (pasted b at) s.is; length_is = e ∙ ap length s.is }

pub number-told : (x : Answer) (n : ℕ) → reply_number (run_reply x n) ≡ answer_number x
number-told pause n = refl
number-told (stopped s) n = refl

module _ {c : List ℕ} {memory at bytes : ℕ} (pre : Seated c memory at bytes) (w : List ℕ) (b : ℕ) where
  -- "A refused input has count 0, an empty Q1"
  pub refused-told : {x : Bool} {out : List ℕ} → x ≡ good_inputs (inputs_of w) → x ≡ false → Answered (pupil c w b) out at (Err code.Inputs) out
  refused-told {x} {out} e z =
      let p : pupil c w b ≡ record { number = 61; count = 0; q1 = [] } = pupil-refused c w b pre.table (sym e ∙ z) in
      record {
        told_is = ap result_cells (sym p);
        is = sym (take-append-drop at out) ∙ ap (λ (k : ℕ). take at out ++ drop k out) (sym (add-zero at)) ∙ ap (λ (y : Pupil). pasted out at y.q1) (sym p);
      }

  module _ (m : List ℕ) {x : Bool} (e : x ≡ good_inputs (inputs_of w)) (z : x ≡ true) (long : length m ≡ memory) {m₁ : List ℕ} (s : m₁ ≡ written started m) where
    gi : T (good_inputs (inputs_of w))
    gi = passes _ (sym e ∙ z)

    enough : T (long_enough m)
    enough = passes _ (le-leb limit.state (length m) (omega (arith, long, pre.long)))

    pub runnable : Runnable c w [] m₁
    runnable = record {
      table = pre.table;
      right = gi;
      memory = subst (λ (l : List ℕ). T (good_memory (program_of c) (inputs_of w) l)) (sym s) (memory-good c w b pre.table gi m enough);
    }

    from : state_of m₁ ≡ started
    from = ap state_of s ∙ from_start c w b pre.table gi m enough

    module _ {t : Ran} {m₂ : List ℕ} (h : RanOn c w [] b m₁ t m₂) where
      abbrev x_run : Run State
      x_run = run (step (program_of c) (inputs_of w)) b started

      same-run : run_on c w [] b (state_of m₁) ≡ x_run
      same-run = ap (λ (u : State). run_on c w [] b u) from

      left : m₂ ≡ written x_run.state m₁
      left = h.is ∙ ap (λ (y : Run State). written y.state m₁) same-run

      now-in : state_of m₂ ≡ x_run.state
      now-in = ap state_of left ∙ written_back x_run.state (pupil-fine c w b pre.table gi) m₁

      rests : Rests m₂
      rests =
          let p = program_of c in
          let ins = inputs_of w in
          let gp = (table-facts c pre.table).good in
          let gx : T (good_state p ins x_run.state) = run-good p ins gp gi b started (started-good p ins gp) in
          let g : T (good_memory p ins m₂) = subst (λ (l : List ℕ). T (good_memory p ins l)) (sym left) (written-good p ins x_run.state gp gi gx m₁) in
          let f = memory-facts p ins m₂ g in
          record { long = f.long; cells = f.cells; fine = rw now-in (pupil-fine c w b pre.table gi) }

      pub showable : Showable m₂ at bytes
      showable = record { rests = rests; room = pre.room }

      pub answered : {out out' : List ℕ} {n : ℕ} → Shown m₂ out at n out' → Answered (pupil c w b) out at (Ok (record { ran = t; length = n })) out'
      answered {out} {out'} {n} k =
          let p = pupil-accepted c w b pre.table (sym e ∙ z) in
          let y = x_run in
          let q1-is : shown m₂ ≡ (pupil c w b).q1 = ap (λ (u : State). get_or u.store.outputs 0 []) now-in ∙ ap (λ (u : Pupil). u.q1) (sym p) in
          let number_is : stop_number t.stopped ≡ (pupil c w b).number =
          h.tells.number_is ∙ ap (λ (u : Run State). answer_number u.answer) same-run ∙ sym (number-told y.answer y.count) ∙ ap (λ (u : Pupil). u.number) (sym p) in
          let count_is : t.count ≡ (pupil c w b).count =
          h.tells.count_is ∙ ap (λ (u : Run State). u.count) same-run ∙ sym (count-told y.answer y.count) ∙ ap (λ (u : Pupil). u.count) (sym p) in
          let length_is : n ≡ length (pupil c w b).q1 = k.length_is ∙ ap length q1-is in
          record {
            told_is = λ i. number_is i ∷ count_is i ∷ length_is i ∷ [];
            is = k.is ∙ ap (pasted out at) q1-is;
          }
