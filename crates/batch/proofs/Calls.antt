-- What start and run leave, as the machine has it.
use mathlib.Core.Path.{◌≡◌, refl, ap, sym, ◌∙◌, subst}
use mathlib.Core.Bool.{Bool, true, false, cond}
use mathlib.Core.List.{List}
use Prim.Native.Nat.{ℕ, ◌/◌, ◌%◌, ◌≤◌}
use native.Mathlib.Omega.{arith}
use lib.Dec.{T, eqb}
use lib.ListN.{length}
use Rattle.std.specs.Prelude.{Option, None, Some, MatchOption}
use borrow.Author.Tests.{ne_eqb, le-leb}
use Rattle.std.specs.Bool.{passes}
use lib.Ieee.Bits.{is_true}
use Rattle.language.specs.Limits as limit
use Rattle.language.specs.Program.{Program}
use Rattle.language.specs.Values.{State, Inputs}
use Rattle.machine.specs.Runs.{Answer, Run, Says, run, ran}
use Rattle.machine.specs.Runs.Answer.{pause, stopped}
use Rattle.machine.specs.Runs.Says.{halted}
use Rattle.machine.proofs.RunLaws.{run-lawful}
use Rattle.machine.specs.Steps.{step}
use Rattle.machine.proofs.StepLaws.{run-good}
use Rattle.machine.specs.WellFormed.{good_program, good_inputs, good_state, started}
use Rattle.machine.proofs.WellFormedLaws.{started-good, open-state}
use Rattle.layout.specs.Bounds.{Fine}
use Rattle.layout.proofs.FineLaws.{good-fine}
use Rattle.layout.specs.Memory.{state_of, good_memory, written}
use Rattle.layout.proofs.MemoryLaws.{written_back, written-good, memory-facts}
use Rattle.layout.specs.Table.{program_of, good_table}
use Rattle.layout.proofs.TableLaws.{table-facts}
use Rattle.calls.specs.Calls.{packed, Result, Reply, reply_number, reply_count, reply_answer, run_reply, start_of, run_of, accepted_result}
use Rattle.calls.specs.Calls.Call.{start_on, run_on}
use Rattle.calls.proofs.OrderLaws.{refused_as, is-62, is-61, is-accepted}
use Rattle.calls.proofs.CallLaws.{run_ends}
use Rattle.calls.proofs.AnswerLaws.{number_most, count-within, packed-number, packed-value, count-told}
use Rattle.interpreter.specs.Answers.{Answers}
use Rattle.viewing.specs.Viewing.{Rests}
use Rattle.console.specs.Console.{budget, refusal_line, ran_bytes, program_bytes}
use Rattle.console.specs.Parts.{Put, answer_of}
use Rattle.console.proofs.Putting.{put_same}
use Rattle.batch.specs.Printed.{table_bytes, stop_by, Ended, printed_most}

-- an answer with no value, read back
upper : {r n : ℕ} → r ≡ packed n 0 → r / 4294967296 ≡ n
upper {n = n} e = ap (λ (k : ℕ). k / 4294967296) e ∙ packed-number n 0 (omega arith)

-- ---- what is printed, by the three questions

module _ (c : List ℕ) (ins : Inputs) where
  bytes-62 : good_table c ≡ false → refusal_line 62 0 ≡ table_bytes c ins
  unfolding table_bytes
  bytes-62 e = sym (ap (λ t. cond t (program_bytes (program_of c) ins) (refusal_line 62 0)) e)

  bytes_run : good_table c ≡ true → table_bytes c ins ≡ program_bytes (program_of c) ins
  unfolding table_bytes
  bytes_run e = ap (λ t. cond t (program_bytes (program_of c) ins) (refusal_line 62 0)) e

  bytes-by : (t : Bool) → good_inputs ins ≡ t → program_bytes (program_of c) ins ≡ cond t (ran_bytes (program_of c) (run (step (program_of c) ins) budget started)) (refusal_line 61 0)
  unfolding program_bytes
  bytes-by t f = ap (λ t. cond t (ran_bytes (program_of c) (run (step (program_of c) ins) budget started)) (refusal_line 61 0)) f

  bytes-61 : good_table c ≡ true → good_inputs ins ≡ false → refusal_line 61 0 ≡ table_bytes c ins
  bytes-61 e f = sym (bytes-by false f) ∙ sym (bytes_run e)

-- a run by its parts
same-run : (p : Program) (y : Run State) {a : Answer} {n : ℕ} {s : State} → a ≡ y.answer → n ≡ y.count → s ≡ y.state → ran_bytes p (ran a n s) ≡ ran_bytes p y
same-run p y {a} {n} {s} e f g =
    ap (λ a. ran_bytes p (ran a n s)) e ∙ ap (λ (n : ℕ). ran_bytes p (ran y.answer n s)) f ∙ ap (λ s. ran_bytes p (ran y.answer y.count s)) g

joint : {l k t : List ℕ} → l ≡ k → t ≡ k → l ≡ t
joint e f = e ∙ sym f

-- ---- start

pub record Begun (c m : List ℕ) (ins : Inputs) (m' : List ℕ) : Type 0 where
  pub table : good_table c ≡ true
  pub right : good_inputs ins ≡ true
  pub cells : m' ≡ written started m

module _ (c m : List ℕ) (ins : Inputs) (long : limit.state ≤ length m) {r : ℕ} {m' : List ℕ} (h : Answers (start_of c ins m) r m') where
  to : {x : Result} → start_of c ins m ≡ x → Answers x r m'
  to e = record { answer = h.answer ∙ ap (λ y. reply_answer y.reply) e; cells = h.cells ∙ ap (λ y. y.cells) e }

  is-refused : (n : ℕ) → start_of c ins m ≡ refused_as n m → refusal_line (r / 4294967296) 0 ≡ refusal_line n 0
  is-refused n e = ap (λ (k : ℕ). refusal_line k 0) (upper {n = n} (to e).answer)

  is-begun : good_table c ≡ true → good_inputs ins ≡ true → start_of c ins m ≡ accepted_result c (start_on ins) m
  is-begun e f = is-accepted c m (start_on ins) e f (le-leb limit.state (length m) long)

  pub start-refused : (r / 4294967296 ≡ 80 → ⊥) → refusal_line (r / 4294967296) 0 ≡ table_bytes c ins
  start-refused n = go (good_table c) refl (good_inputs ins) refl
    where
      go : (a : Bool) → good_table c ≡ a → (b : Bool) → good_inputs ins ≡ b → refusal_line (r / 4294967296) 0 ≡ table_bytes c ins
      go false e b f = is-refused 62 (is-62 c m (start_on ins) e) ∙ bytes-62 c ins e
      go true e false f = is-refused 61 (is-61 c m (start_on ins) e f) ∙ bytes-61 c ins e f
      go true e true f = absurd (n (upper {n = 80} (to (is-begun e f)).answer))

  pub begun : r / 4294967296 ≡ 80 → Begun c m ins m'
  begun h80 = go (good_table c) refl (good_inputs ins) refl
    where
      go : (a : Bool) → good_table c ≡ a → (b : Bool) → good_inputs ins ≡ b → Begun c m ins m'
      go false e b f = absurd (omega (arith, upper {n = 62} (to (is-62 c m (start_on ins) e)).answer, h80))
      go true e false f = absurd (omega (arith, upper {n = 61} (to (is-61 c m (start_on ins) e f)).answer, h80))
      go true e true f = record { table = e; right = f; cells = (to (is-begun e f)).cells }

  pub refusal-printed : {n q : ℕ} {d e : List ℕ} → n ≡ r / 4294967296 → (n ≡ 80 → ⊥) → Put d 0 (refusal_line n 0) e q → Put d 0 (table_bytes c ins) e q
  refusal-printed k no-80 p = put_same (ap (λ (n : ℕ). refusal_line n 0) k ∙ start-refused (λ z. no-80 (k ∙ z))) p

-- ---- run

stop-most : {n : ℕ} → n ≤ 81 → MatchOption (stop_by n) (Unit {0}) (λ k. k ≤ 81)
stop-most {n} h = go (eqb n 81)
  where
    go : (b : Bool) → MatchOption (cond b None (Some n)) (Unit {0}) (λ k. k ≤ 81)
    go true = tt
    go false = h

module _ {c m : List ℕ} {ins : Inputs} {m₁ : List ℕ} (long : limit.state ≤ length m) (b : Begun c m ins m₁) {r : ℕ} {m₂ : List ℕ} (h : Answers (run_of c ins budget m₁) r m₂) where
  abbrev p : Program
  p = program_of c

  gp : T (good_program p)
  gp = (table-facts c (passes _ b.table)).good

  gi : T (good_inputs ins)
  gi = passes _ b.right

  gs : T (good_state p ins started)
  gs = started-good p ins gp

  abbrev x : Run State
  x = run (step p ins) budget started

  gx : T (good_state p ins x.state)
  gx = run-good p ins gp gi budget started gs

  fx : Fine x.state
  fx = good-fine p ins x.state gp gi gx

  from : state_of m₁ ≡ started
  from = ap state_of b.cells ∙ written_back started (good-fine p ins started gp gi gs) m

  memory : T (good_memory p ins m₁)
  memory = subst (λ (l : List ℕ). T (good_memory p ins l)) (sym b.cells) (written-good p ins started gp gi gs m)

  made : run_of c ins budget m₁ ≡ record { reply = run_reply x.answer x.count; cells = written x.state m₁ }
  made =
      is-accepted c m₁ (run_on ins budget) b.table b.right (is_true (good_memory p ins m₁) memory)
      ∙ ap (λ s. let y = run (step p ins) budget s in record { reply = run_reply y.answer y.count; cells = written y.state m₁ }) from

  abbrev reply : Reply
  reply = run_reply x.answer x.count

  told : r ≡ packed (reply_number reply) (reply_count reply)
  told = h.answer ∙ ap (λ y. reply_answer y.reply) made

  number_low : reply_number reply ≤ 81
  number_low = subst (λ y. reply_number y.reply ≤ 81) made (number_most c m₁ (run_on ins budget))

  count_low : reply_count reply ≤ 100000
  count_low = subst (λ y. reply_count y.reply ≤ 100000) made (count-within c m₁ ins budget)

  number_is : r / 4294967296 ≡ reply_number reply
  number_is = ap (λ (k : ℕ). k / 4294967296) told ∙ packed-number (reply_number reply) (reply_count reply) (omega (arith, count_low))

  count_is : r % 4294967296 ≡ reply_count reply
  count_is = ap (λ (k : ℕ). k % 4294967296) told ∙ packed-value (reply_number reply) (reply_count reply) (omega (arith, count_low))

  left : state_of m₂ ≡ x.state
  left = ap state_of (h.cells ∙ ap (λ y. y.cells) made) ∙ written_back x.state fx m₁

  rests : Rests m₂
  rests =
      let g : T (good_memory p ins m₂) = subst (λ (l : List ℕ). T (good_memory p ins l)) (sym (h.cells ∙ ap (λ y. y.cells) made)) (written-good p ins x.state gp gi gx m₁) in
      let f = memory-facts p ins m₂ g in
      record { long = f.long; cells = f.cells; fine = rw left fx }

  ended : {d : ℕ} → printed_most ≤ d → Ended c m₂ (stop_by (r / 4294967296)) (r % 4294967296) d
  ended room = record {
    good = passes _ b.table;
    rests = rests;
    next = rw left (open-state p ins x.state gx).next;
    number_most = stop-most (rw number_is number_low);
    count_most = rw count_is count_low;
    room = room;
  }

  -- a stop's number is not that of a pause
  not-pause : (a : Answer) (n : ℕ) → Says (step p ins) budget n x.state a → (reply_number (run_reply a n) ≡ 81 → reply_count (run_reply a n) ≡ budget)
      → answer_of (stop_by (reply_number (run_reply a n))) ≡ a
  not-pause pause n w k = refl
  not-pause (stopped s) n (halted l e) k = rw (ne_eqb s 81 (λ z. omega (arith, k z, l))) refl

  answer-is : answer_of (stop_by (r / 4294967296)) ≡ x.answer
  answer-is =
      let u = run_ends c m₁ (passes _ b.table) ins gi memory budget in
      let e = is-accepted c m₁ (run_on ins budget) b.table b.right (is_true (good_memory p ins m₁) memory) in
      let k : reply_number reply ≡ 81 → reply_count reply ≡ budget =
      subst (λ y. reply_number y.reply ≡ 81 → reply_count y.reply ≡ budget) (sym e ∙ made) u.pauses.0 in
      ap (λ (k : ℕ). answer_of (stop_by k)) number_is ∙ not-pause x.answer x.count (run-lawful (step p ins) budget started).says k

  table_is : table_bytes c ins ≡ ran_bytes p x
  table_is = bytes_run c ins b.table ∙ bytes-by c ins true b.right

  run-printed : ran_bytes p (ran (answer_of (stop_by (r / 4294967296))) (r % 4294967296) (state_of m₂)) ≡ table_bytes c ins
  run-printed = joint (same-run p x answer-is (count_is ∙ count-told x.answer x.count) left) table_is

  module _ {o : Option ℕ} {v : ℕ} (e : o ≡ stop_by (r / 4294967296)) (f : v ≡ r % 4294967296) where
    pub ended-as : {d : ℕ} → printed_most ≤ d → Ended c m₂ o v d
    ended-as room = rw (e, f) (ended room)

    pub run-put : {d d' : List ℕ} {q : ℕ} → Put d 0 (ran_bytes p (ran (answer_of o) v (state_of m₂))) d' q → Put d 0 (table_bytes c ins) d' q
    run-put h = put_same run-printed (rw (e, f) at h)
