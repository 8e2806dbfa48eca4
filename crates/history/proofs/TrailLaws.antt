-- Laws of trails: what holds of one goes on to hold when a step, or a whole run, is added.
use Rattle.std.specs.Prelude.{◌≡◌, refl, ◌≢◌, Bool, ◌&&◌, [], ◌∷◌, ℕ, zero, suc, ◌+◌, ◌≤◌, ◌<◌, T, ltb, length}
use Rattle.std.proofs.Common.{sym, subst, add-zero, add-suc, suc-add, le_trans, arith, ltb→lt}
use Rattle.std.proofs.Math.Decide.{dec_le}
use Rattle.lists.specs.Lists.{all, filled}
use Rattle.lists.specs.ListLaws.{T-left, T-right, all-at}
use Rattle.language.specs.Program.{Arg, Instr, Entry, Switch, Program, no_label, no_switch, instr_at, label_at, switch_at}
use Rattle.language.specs.Program.Arg.{nothing, letter, label, switch, class, text}
use Rattle.language.specs.Values.{Store, State, Inputs}
use Rattle.machine.specs.Runs.{Outcome, Goes}
use Rattle.machine.specs.Runs.Outcome.{stop, went}
use Rattle.machine.specs.Runs.Goes.{here, on}
use Rattle.machine.specs.Steps.{step}
use Rattle.machine.specs.WellFormed.{ranged, good_label, good_entry, good_switch, good_return, good_program, good_inputs, good_state}
use Rattle.machine.specs.Addresses.{times}
use Rattle.machine.specs.Keeps.{Keeps}
use Rattle.machine.specs.Facts.{InstrFacts, ProgramFacts}
use Rattle.machine.proofs.KeepLaws.{sound-given, keeps-deleted}
use Rattle.machine.proofs.WellFormedLaws.{open-instr, open-label, open-program, open-state}
use Rattle.machine.proofs.ControlLaws.{returns-in}
use Rattle.machine.proofs.StepLaws.{instr-good, state-sound, state-once, step-good, step_keeps}
use Rattle.layout.specs.Bounds.{Each}
use Rattle.layout.proofs.CellLaws.{each_of}
use Rattle.history.specs.History.{Visit, visit, Trail, stepped_to, trail_on, begun}
use Rattle.history.specs.Demand.{LabelDeclared, EntriesMet, Declared, InstructionMet, Met, Distinct, NoneBack, NeverAgain, Stepped}
use Rattle.history.specs.Demand.Stepped.{not_begun, begun_at, then_step}

-- ---- what a step meets

module _ (p : Program) (g : T (good_program p)) where
  abbrev facts : ProgramFacts p
  facts = open-program p g

  label-declared : (k : ℕ) → k < length p.labels → LabelDeclared p k
  label-declared k h = (h, (open-label p (label_at p k) (all-at (good_label p) p.labels facts.labels k no_label h)).target)

  entry-declared : (goes_by_name : Bool) (e : Entry) → T (good_entry p goes_by_name e) → LabelDeclared p e.label
  entry-declared goes_by_name e h = label-declared e.label (ltb→lt e.label (length p.labels) (T-left (ltb e.label (length p.labels)) _ h))

  switch-met : (w : Switch) → T (good_switch p w) → EntriesMet p w
  unfolding good_switch
  switch-met w h =
      record {
        labels_declared =
            each_of (good_entry p w.goes_by_name) (λ e. LabelDeclared p e.label) (entry-declared w.goes_by_name) w.entries
            (T-right (filled w.entries) (all (good_entry p w.goes_by_name) w.entries) h);
        entries_listed = h;
      }

  arg-declared : (a : Arg) → T (ranged p a) → Declared p a
  arg-declared nothing h = tt
  arg-declared (letter l n) h = tt
  arg-declared (label k) h = label-declared k (ltb→lt k (length p.labels) h)
  arg-declared (switch k) h = let l = ltb→lt k (length p.switches) h in (l, switch-met (switch_at p k) (all-at (good_switch p) p.switches facts.switches k no_switch l))
  arg-declared (class cs) h = tt
  arg-declared (text t) h = tt
  arg-declared (Arg.number z) h = tt

  instruction-met : (i : Instr) → InstrFacts p i → InstructionMet p i
  instruction-met i h =
      record {
        arguments_listed = h.forms;
        first_ranged = h.first;
        second_ranged = h.second;
        third_ranged = h.third;
        first_declared = arg-declared i.first h.first;
        second_declared = arg-declared i.second h.second;
        third_declared = arg-declared i.third h.third;
      }

  -- ---- one state

  module _ (ins : Inputs) (gi : T (good_inputs ins)) where
    good-met : (s : State) → T (good_state p ins s) → Met p s
    good-met s h =
        let c = length p.code in
        let f = open-state p ins s h in
        let return-in : (n : ℕ) → T (ltb n c && good_return p n) → n < c = λ n t. ltb→lt n c (T-left (ltb n c) (good_return p n) t) in
        let returns = returns-in p facts s.stack f.returns in
        record {
          next_in_table = f.next;
          returns_in_table = each_of (λ n. ltb n c && good_return p n) (λ n. n < c) return-in s.stack returns;
          instruction = instruction-met (instr_at p s.next) (open-instr p (instr_at p s.next) (instr-good p ins g gi s h));
        }

    -- a record's address was given
    good-given : (s : State) → T (good_state p ins s) → (n : ℕ) → times n s.store ≢ 0 → n ≤ s.store.last
    good-given s h n e = go (dec_le n s.store.last)
      where
        go : Dec (n ≤ s.store.last) → n ≤ s.store.last
        go (yes k) = k
        go (no k) = absurd (e (sound-given ins (state-sound p ins g gi s h) n (omega arith)))

-- ---- a trail

-- every record of the trail has an address up to l
abbrev pub Given : ℕ → Trail → Type 0
Given l tr = Each (λ v. (n : ℕ) → times n v.state.store ≢ 0 → n ≤ l) tr

given-later : {l m : ℕ} → l ≤ m → (tr : Trail) → Given l tr → Given m tr
given-later h [] k = tt
given-later h (v ∷ tr) k = (λ n e. le_trans (k.0 n e) h, given-later h tr k.1)

-- what is not back in s is not back after a step from s
none-later : (ins : Inputs) {s t : Store} → Keeps ins s t → (tr : Trail) → Given s.last tr → NoneBack s tr → NoneBack t tr
none-later ins k [] h b = tt
none-later ins k (v ∷ []) h b = tt
none-later ins k (v ∷ w ∷ tr) h b = (λ n d. keeps-deleted ins k n (h.1.0 n d.0) (b.0 n d), none-later ins k (w ∷ tr) h.1 b.1)

newest : (p : Program) {s t : State} {n : ℕ} {v : Visit} {tr : Trail} → Stepped p s n (v ∷ tr) t → v.state ≡ t
newest p begun_at = refl
newest p (then_step w e) = refl

trail-some : (p : Program) (ins : Inputs) (n : ℕ) (s : State) (v : Visit) (tr : Trail) → trail_on p ins n s (v ∷ tr) ≢ []
trail-some p ins zero s v tr = λ e. let z : ◌≡◌ {A = ℕ} 0 1 = cc in omega arith
trail-some p ins (suc n) s v tr = go (step p ins s) (λ t. trail-some p ins n t (visit ins t) (v ∷ tr))
  where
    go : (o : Outcome State) → ((t : State) → trail_on p ins n t (visit ins t ∷ v ∷ tr) ≢ []) → stepped_to p ins (trail_on p ins n) (v ∷ tr) o ≢ []
    go (stop k) h = λ e. let z : ◌≡◌ {A = ℕ} 0 1 = cc in omega arith
    go (went t) h = h t

-- what demand 3 says of a trail of n steps from s to t
pub record Followed (p : Program) (s : State) (n : ℕ) (tr : Trail) (t : State) : Type 0 where
  pub steps : Stepped p s n tr t
  pub met : Each (λ v. Met p v.state) tr
  pub distinct : Each (λ v. Distinct v.state.store) tr
  pub never_again : NeverAgain tr
  pub given : Given t.store.last tr

pub followed-none : (p : Program) (s : State) → Followed p s 0 [] s
followed-none p s = record { steps = not_begun; met = tt; distinct = tt; never_again = tt; given = tt }

module _ (p : Program) (g : T (good_program p)) (ins : Inputs) (gi : T (good_inputs ins)) where
  pub followed-from : (s : State) → T (good_state p ins s) → Followed p s 0 (visit ins s ∷ []) s
  followed-from s h =
      record {
        steps = begun_at;
        met = (good-met p g ins gi s h, tt);
        distinct = (state-once p ins g gi s h, tt);
        never_again = (tt, tt);
        given = (good-given p g ins gi s h, tt);
      }

  followed-step : {s t u : State} {n : ℕ} {v : Visit} {tr : Trail} → T (good_state p ins t) → step p ins t ≡ went u → Followed p s n (v ∷ tr) t
      → Followed p s (suc n) (visit ins u ∷ v ∷ tr) u
  followed-step {t = t} {u = u} {v = v} {tr = tr} h e f =
      let k = step_keeps p ins g gi t h e in
      let gu = step-good p ins g gi t h e in
      let b : NoneBack t.store (v ∷ tr) = subst (λ (s : State). NoneBack s.store (v ∷ tr)) (newest p f.steps) f.never_again.0 in
      record {
        steps = then_step f.steps e;
        met = (good-met p g ins gi u gu, f.met);
        distinct = (state-once p ins g gi u gu, f.distinct);
        never_again = ((λ n d. d.1, none-later ins k (v ∷ tr) f.given b), f.never_again);
        given = (good-given p g ins gi u gu, given-later k.later (v ∷ tr) f.given);
      }

  followed-on : {s t u : State} {n k : ℕ} {v : Visit} {tr : Trail} → Goes (step p ins) k t u → T (good_state p ins t) → Followed p s n (v ∷ tr) t
      → Followed p s (n + k) (trail_on p ins k t (v ∷ tr)) u
  followed-on here h f = rw add-zero f
  followed-on {s} {t} {u} {n} {v = v} {tr = tr} (on {n = k} {t = w} e d) h f =
      subst (λ (o : Outcome State). Followed p s (n + suc k) (stepped_to p ins (trail_on p ins k) (v ∷ tr) o) u) (sym e)
      (rw (add-suc, ← suc-add) (followed-on d (step-good p ins g gi t h e) (followed-step h e f)))

  -- a run added to a trail, or begun with
  run-added : {s t u : State} {n k : ℕ} {tr : Trail} → Stepped p s n tr t → Goes (step p ins) k t u → T (good_state p ins t) → Followed p s n tr t
      → Followed p s (n + k) (trail_on p ins k t (begun ins t tr)) u
  run-added {s} not_begun d h f = followed-on d h (followed-from s h)
  run-added begun_at d h f = followed-on d h f
  run-added (then_step w e) d h f = followed-on d h f

  pub followed-run : {s t u : State} {n k : ℕ} {tr : Trail} → Goes (step p ins) k t u → T (good_state p ins t) → Followed p s n tr t
      → Followed p s (n + k) (trail_on p ins k t (begun ins t tr)) u
  followed-run d h f = run-added f.steps d h f

pub run-begun : (p : Program) (ins : Inputs) (n : ℕ) (s : State) (tr : Trail) → trail_on p ins n s (begun ins s tr) ≢ []
run-begun p ins n s [] = trail-some p ins n s (visit ins s) []
run-begun p ins n s (v ∷ tr) = trail-some p ins n s v tr
