-- Every answer is a listed number, and a count no greater than the budget; both are read back from the 64 bits.
use Rattle.std.specs.Prelude.{◌≡◌, refl, ◌↔◌, not, List, ◌++◌, ℕ, ◌/◌, ◌%◌, ◌≤◌, ◌<◌, T, leb}
use Rattle.std.proofs.Common.{ap, subst, arith, leb→le, T_not}
use Rattle.lists.specs.Lists.{all, among}
use Rattle.lists.specs.ListLaws.{all_among}
use Rattle.language.specs.Program.{Program}
use Rattle.language.specs.Values.{State, Inputs}
use Rattle.layout.specs.Below.Runs.{Answer, run, Says}
use Rattle.layout.specs.Below.Runs.Answer.{pause, stopped}
use Rattle.layout.specs.Below.Runs.Says.{used_up, halted}
use Rattle.layout.specs.Below.Steps.{numbers, step}
use Rattle.layout.proofs.Below.RunLaws.{run-lawful}
use Rattle.layout.proofs.Below.MachineStepLaws.{step-first}
use Rattle.layout.specs.Memory.{state_of}
use Rattle.layout.specs.Table.{program_of}
use Rattle.calls.specs.Calls.{packed, Call, reply_number, reply_count, Result, call_questions, run_reply, accepted_result, result_of, start_of, run_of}
use Rattle.calls.specs.Calls.Call.{start_on, run_on}
use Rattle.calls.specs.Calls.Reply.{refusal}
use Rattle.calls.specs.Answers.{Accepted, refusal_numbers, accepted_numbers}
use Rattle.calls.proofs.QuestionLaws.{first-among, step-number}
use Rattle.calls.proofs.CallLaws.{Decision, decided, yes-accepted, accepted-start}
use Rattle.calls.proofs.CallLaws.Decision.{answered_no, answered_yes}

-- the numbers of start and run
abbrev pub call_numbers : List ℕ
call_numbers = refusal_numbers ++ accepted_numbers

among-all : (ns : List ℕ) → T (all (λ n. among n call_numbers) ns) → (number : ℕ) → T (among number ns) → T (among number call_numbers)
among-all ns h number k = all_among (λ n. among n call_numbers) ns h number k

run-number : (p : Program) (ins : Inputs) (budget n : ℕ) (t : State) (a : Answer) → Says (step p ins) budget n t a
    → T (among (reply_number (run_reply a n)) accepted_numbers)
run-number p ins budget n t pause (used_up e) = tt
run-number p ins budget n t (stopped k) (halted l e) =
    all_among (λ n. among n accepted_numbers) numbers tt k (step-number p ins t k (step-first p ins t e))

-- no refusal has the number of an accepted call
not-both : (number : ℕ) → T (among number refusal_numbers) → T (among number accepted_numbers) → ⊥
not-both number h = T_not (among number accepted_numbers) (all_among (λ n. not (among n accepted_numbers)) refusal_numbers tt number h)

pub count-told : (a : Answer) (n : ℕ) → reply_count (run_reply a n) ≡ n
count-told pause n = refl
count-told (stopped number) n = refl

run-count : (p : Program) (ins : Inputs) (budget n : ℕ) (t : State) (a : Answer) → Says (step p ins) budget n t a → reply_count (run_reply a n) ≤ budget
run-count p ins budget n t pause (used_up e) = omega arith
run-count p ins budget n t (stopped k) (halted l e) = omega arith

module _ (c m : List ℕ) where
  yes-number : (x : Call) → T (among (reply_number (accepted_result c x m).reply) accepted_numbers)
  yes-number (start_on ins) = tt
  yes-number (run_on ins budget) =
      let p = program_of c in
      let r = run (step p ins) budget (state_of m) in
      run-number p ins budget r.count r.state r.answer (run-lawful (step p ins) budget (state_of m)).says

  pub number_listed : (x : Call) → T (among (reply_number (result_of c x m).reply) call_numbers)
  number_listed x = go (result_of c x m) (decided c m x)
    where
      go : (r : Result) → Decision c m x r → T (among (reply_number r.reply) call_numbers)
      go r (answered_no {number = n} h) = among-all refusal_numbers tt n (first-among n (call_questions c x m) h)
      go r (answered_yes q a b d) = among-all accepted_numbers tt (reply_number (accepted_result c x m).reply) (yes-number x)

  -- a call is refused just when its number is 61, 62 or 63, and that is the refusal's
  pub refused_number : (x : Call) (number : ℕ)
      → ((result_of c x m).reply ≡ refusal number) ↔ ((reply_number (result_of c x m).reply ≡ number) × T (among number refusal_numbers))
  refused_number x number = go (result_of c x m) (decided c m x)
    where
      go : (r : Result) → Decision c m x r → (r.reply ≡ refusal number) ↔ ((reply_number r.reply ≡ number) × T (among number refusal_numbers))
      go r (answered_no {number = n} h) =
          (λ e. let q : n ≡ number = ap reply_number e in (q, subst (λ (k : ℕ). T (among k refusal_numbers)) q (first-among n (call_questions c x m) h)), λ k. ap refusal k.0)
      go r (answered_yes q a b d) =
          (λ e. absurd (yes-accepted c m x number e), λ k. absurd (not-both number k.1 (subst (λ (k : ℕ). T (among k accepted_numbers)) k.0 (yes-number x))))

  -- and accepted just when it is 80, 81 or a stop's
  pub accepted_number : (x : Call) → Accepted (result_of c x m).reply ↔ T (among (reply_number (result_of c x m).reply) accepted_numbers)
  accepted_number x = (
    go (result_of c x m) (decided c m x),
    λ h number e.
        let k = (refused_number x number).0 e in not-both number k.1 (subst (λ (k : ℕ). T (among k accepted_numbers)) k.0 h),
  )
    where
      go : (r : Result) → Decision c m x r → Accepted r.reply → T (among (reply_number r.reply) accepted_numbers)
      go r (answered_no {number = n} h) a = absurd (a n refl)
      go r (answered_yes q a b d) k = yes-number x

  -- "Accepted is 80"
  pub start-number : (ins : Inputs) → Accepted (start_of c ins m).reply → reply_number (start_of c ins m).reply ≡ 80
  start-number ins h = ap reply_number (accepted-start c m ins h).0

  pub number_most : (x : Call) → reply_number (result_of c x m).reply ≤ 81
  number_most x =
      let n = reply_number (result_of c x m).reply in
      leb→le n 81 (all_among (λ n. leb n 81) call_numbers tt n (number_listed x))

  pub count-within : (ins : Inputs) (budget : ℕ) → reply_count (run_of c ins budget m).reply ≤ budget
  count-within ins budget = go (run_of c ins budget m) (decided c m (run_on ins budget))
    where
      go : (r : Result) → Decision c m (run_on ins budget) r → reply_count r.reply ≤ budget
      go r (answered_no h) = omega arith
      go r (answered_yes q a b d) =
          let p = program_of c in
          let r = run (step p ins) budget (state_of m) in
          run-count p ins budget r.count r.state r.answer (run-lawful (step p ins) budget (state_of m)).says

  pub start-count : (ins : Inputs) → reply_count (start_of c ins m).reply ≡ 0
  start-count ins = go (start_of c ins m) (decided c m (start_on ins))
    where
      go : (r : Result) → Decision c m (start_on ins) r → reply_count r.reply ≡ 0
      go r (answered_no h) = refl
      go r (answered_yes q a b d) = refl

-- number and value are read back from the answer
pub packed-number : (number value : ℕ) → value < 4294967296 → packed number value / 4294967296 ≡ number
packed-number number value h = omega arith

pub packed-value : (number value : ℕ) → value < 4294967296 → packed number value % 4294967296 ≡ value
packed-value number value h = omega arith
