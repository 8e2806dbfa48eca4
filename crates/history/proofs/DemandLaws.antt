-- Demand 3 holds.
use Rattle.std.specs.Prelude.{◌≡◌, refl, List, [], ◌∷◌, ℕ, T, length, drop}
use Rattle.std.proofs.Common.{subst, arith}
use Rattle.language.specs.Limits as limit
use Rattle.language.specs.Program.{Program}
use Rattle.language.specs.Values.{Inputs}
use Rattle.machine.specs.Runs.{Answer, run}
use Rattle.machine.specs.Runs.Answer.{pause, stopped}
use Rattle.machine.specs.Steps.{step}
use Rattle.machine.specs.WellFormed.{good_program, good_inputs, started}
use Rattle.machine.proofs.WellFormedLaws.{started-good}
use Rattle.layout.specs.Bounds.{Each}
use Rattle.layout.specs.Memory.{state_of, written}
use Rattle.layout.specs.Table.{program_of, good_table}
use Rattle.layout.proofs.TableLaws.{program_of-cells, table_good, table-facts}
use Rattle.macros.specs.Load.{load_in}
use Rattle.syntax.specs.Load.Loaded.{accepted}
use Rattle.acceptance.proofs.RowLaws.{each_map}
use Rattle.acceptance.proofs.AcceptanceLaws.{accepted-good}
use Rattle.calls.specs.Calls.{table_after, Call, call_inputs, reply_count, Result, memory_passes, run_reply, accepted_result, result_of}
use Rattle.calls.specs.Calls.Call.{start_on, run_on}
use Rattle.calls.proofs.CallLaws.{Decision, decided, refused-by, refused-same, good-not-62, start_left, handed-good, run_ends, accepted-run, again-not-63}
use Rattle.calls.proofs.CallLaws.Decision.{answered_no, answered_yes}
use Rattle.calls.proofs.AnswerLaws.{refused_number, accepted_number}
use Rattle.history.specs.History.{visit, Past, past_on, past_after, moments, history}
use Rattle.history.specs.Demand.{Demand3}
use Rattle.history.proofs.TrailLaws.{Followed, followed-none, followed-from, followed-run, run-begun}

-- what holds before and after each call: the memory m holds what the past says, and is the first one, a, until a call is accepted
record Ready (p : Program) (a m : List ℕ) (h : Past) : Type 0 where
  followed : Followed p h.base h.count h.trail (state_of m)
  first : h.trail ≡ [] → m ≡ a

past-run : (p : Program) (x : Call) (m : List ℕ) (a : Answer) (n : ℕ) (h : Past)
    → past_after p x m (run_reply a n) h ≡ past_on p (call_inputs x) (reply_count (run_reply a n)) m h
past-run p x m pause n h = refl
past-run p x m (stopped k) n h = refl

module _ (c : List ℕ) (tc : T (good_table c)) (a : List ℕ) where
  abbrev p : Program
  p = program_of c

  start-ready : (ins : Inputs) → T (good_inputs ins) → (m : List ℕ)
      → Ready p a (written started m) (record { base = started; count = 0; trail = visit ins started ∷ [] })
  start-ready ins gi m =
      let gp = (table-facts c tc).good in
      record {
        followed = rw (start_left c m tc ins gi) (followed-from p gp ins gi started (started-good p ins gp));
        first = λ e. absurd (let z : ◌≡◌ {A = ℕ} 0 1 = cc in omega arith);
      }

  run-ready : (ins : Inputs) (budget : ℕ) → T (good_inputs ins) → (m : List ℕ) → T (memory_passes c (run_on ins budget) m) → (h : Past) → Ready p a m h
      → let r = accepted_result c (run_on ins budget) m in Ready p a r.cells (past_on p ins (reply_count r.reply) m h)
  run-ready ins budget gi m k h rd =
      let r = accepted_result c (run_on ins budget) m in
      record {
        followed = followed-run p (table-facts c tc).good ins gi (run_ends c m tc ins gi k budget).counts (handed-good c m tc ins gi k) rd.followed;
        first = λ e. absurd (run-begun p ins (reply_count r.reply) (state_of m) h.trail e);
      }

  accepted-ready : (x : Call) → T (good_inputs (call_inputs x)) → (m : List ℕ) → T (memory_passes c x m) → (h : Past) → Ready p a m h
      → let r = accepted_result c x m in Ready p a r.cells (past_after p x m r.reply h)
  accepted-ready (start_on ins) gi m k h rd = start-ready ins gi m
  accepted-ready (run_on ins budget) gi m k h rd =
      let r = run (step p ins) budget (state_of m) in
      rw (past-run p (run_on ins budget) m r.answer r.count h) (run-ready ins budget gi m k h rd)

  one-call : (x : Call) (m : List ℕ) (h : Past) → Ready p a m h → let r = result_of c x m in Ready p a r.cells (past_after p x m r.reply h)
  one-call x m h rd = go (result_of c x m) (decided c m x)
    where
      go : (r : Result) → Decision c m x r → Ready p a r.cells (past_after p x m r.reply h)
      go r (answered_no n) = rd
      go r (answered_yes q tc gi k) = accepted-ready x gi m k h rd

  all-ready : (xs : List Call) (m : List ℕ) (h : Past) → Ready p a m h → Each (λ x. Ready p a x.result.cells x.past) (moments p c xs m h)
  all-ready [] m h rd = tt
  all-ready (x ∷ xs) m h rd =
      let r = result_of c x m in
      let after = one-call x m h rd in
      (after, all-ready xs r.cells (past_after p x m r.reply h) after)

-- of every well-formed table, with the program that it reads as
pub table-demand3 : (c : List ℕ) → T (good_table c) → (xs : List Call) (m : List ℕ) → Demand3 (program_of c) c xs m
table-demand3 c tc xs m =
    let h = history (program_of c) c xs m in
    let h₀ : Past = record { base = state_of m; count = 0; trail = [] } in
    let ready = all-ready c tc m xs m h₀ (record { followed = followed-none (program_of c) (state_of m); first = λ e. refl }) in
    record {
      same_program = refl;
      met = each_map _ _ (λ x rd. rd.followed.met) h ready;
      distinct = each_map _ _ (λ x rd. rd.followed.distinct) h ready;
      never_again = each_map _ _ (λ x rd. rd.followed.never_again) h ready;
      state_after = each_map _ _ (λ x rd. rd.followed.steps) h ready;
      untouched = each_map _ _ (λ x rd. rd.first) h ready;
      run_ends = accepted-run;
      refused = refused-by;
      unchanged = refused-same;
      refused_number = refused_number;
      accepted_number = accepted_number;
      never_62 = λ m' x e. good-not-62 c m' x tc ((refused_number c m' x 62).1 (e, tt));
      never_63 = λ m' x y a i e. again-not-63 c m' x y a i ((refused_number c (result_of c x m').cells y 63).1 (e, tt));
    }

-- of the table of every well-formed program
pub program-demand3 : (p : Program) → T (good_program p) → (c : List ℕ) (xs : List Call) (m : List ℕ) → Demand3 p (table_after (accepted p) c) xs m
unfolding table_after
program-demand3 p g c xs m =
    let rest = drop limit.table c in
    subst (λ (q : Program). Demand3 q (table_after (accepted p) c) xs m) (program_of-cells p g rest)
    (table-demand3 (table_after (accepted p) c) (table_good p g rest) xs m)

-- of the table that load leaves of an accepted text
pub text-demand3 : (text c : List ℕ) (p : Program) → load_in (length c) text ≡ accepted p → (xs : List Call) (m : List ℕ) → Demand3 p (table_after (load_in (length c) text) c) xs m
text-demand3 text c p e xs m = rw e (program-demand3 p (accepted-good (length c) text p e) c xs m)
