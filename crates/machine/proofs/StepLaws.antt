-- A step from a well-formed state leads to a well-formed state, keeps records' addresses distinct and gives none again. So do whole runs.
use Rattle.std.specs.Prelude.{◌≡◌, Bool, true, false, cond, ◌&&◌, List, [], ◌∷◌, map, ℕ, ◌≤◌, T, leb, length}
use Rattle.std.proofs.Common.{◌∙◌, subst, arith, leb→le}
use Rattle.language.specs.Below.Lists.{all, if_any, among}
use Rattle.language.specs.Below.ListLaws.{T-left, T-right, all-at, all_among}
use Rattle.language.specs.Limits as limit
use Rattle.language.specs.Program.{Program, no_instr, instr_at}
use Rattle.language.specs.Values.{State, Inputs}
use Rattle.machine.specs.Changes.{fits}
use Rattle.machine.specs.Runs.{Goes, run}
use Rattle.machine.specs.Runs.Outcome.{stop, went}
use Rattle.machine.specs.Runs.Goes.{here, on}
use Rattle.machine.specs.Steps.{meaning, can_go, made, numbers, asks_after, questions, refusals, step}
use Rattle.machine.specs.WellFormed.{good_instr, good_program, good_inputs, good_state}
use Rattle.machine.specs.Addresses.{times}
use Rattle.machine.specs.Keeps.{Sound, Keeps}
use Rattle.machine.specs.Facts.{ProgramFacts, StoreFacts, StateFacts, Allowed}
use Rattle.machine.proofs.RunLaws.{run-lawful}
use Rattle.machine.proofs.KeepLaws.{keeps-sound, keeps-deleted, sound-once}
use Rattle.machine.proofs.WellFormedLaws.{open-instr, open-program, open-inputs, open-store, shut-store, open-state, shut-state}
use Rattle.machine.proofs.EffectLaws.{row_keeps}
use Rattle.machine.proofs.ControlLaws.{row_goes, gone-in, gone-returns}

-- the first refused question, where there is one
went_to : {s t : State} (ns : List ℕ) → if_any (went s) stop ns ≡ went t → s ≡ t
went_to [] e = cc
went_to {s} {t} (n ∷ ns) e = absurd (let z : ◌≡◌ {A = ℕ} 0 1 = cc in omega arith)

stop-first : (s : State) {k : ℕ} (ns : List ℕ) → if_any (went s) stop ns ≡ stop k → (ks : List ℕ) × (ns ≡ k ∷ ks)
stop-first s [] e = absurd (let z : ◌≡◌ {A = ℕ} 0 1 = cc in omega arith)
stop-first s (n ∷ ns) e = (ns, cc)

all_yes : (s t : State) (f : ℕ → Bool) (ns : List ℕ) → if_any (went s) stop (refusals (map (λ n. (n, f n)) ns)) ≡ went t → T (all f ns)
all_yes s t f [] e = tt
all_yes s t f (n ∷ ns) e = go (f n) e (all_yes s t f ns)
  where
    rest : List ℕ
    rest = refusals (map (λ n. (n, f n)) ns)

    go : (b : Bool) → if_any (went s) stop (cond b rest (n ∷ rest)) ≡ went t → (if_any (went s) stop rest ≡ went t → T (all f ns)) → T (b && all f ns)
    go true e k = k e
    go false e k = absurd (let z : ◌≡◌ {A = ℕ} 0 1 = cc in omega arith)

module _ (p : Program) (ins : Inputs) where
  -- a step that goes on makes what its row says
  pub step-made : (s : State) {t : State} → step p ins s ≡ went t → made (meaning p ins s) s ≡ t
  unfolding step
  step-made s e = went_to (refusals (questions p ins s)) e

  -- and all its questions are answered yes
  pub step-asks : (s : State) {t : State} → step p ins s ≡ went t → (n : ℕ) → T (among n numbers)
      → T ((meaning p ins s).0 n && asks_after (meaning p ins s) s n)
  unfolding step questions
  step-asks s {t} e =
      let r = meaning p ins s in
      all_among (λ n. r.0 n && asks_after r s n) numbers (all_yes (made r s) t (λ n. r.0 n && asks_after r s n) numbers e)

  -- a step that stops names the first question answered no
  pub step-first : (s : State) {k : ℕ} → step p ins s ≡ stop k → (ks : List ℕ) × (refusals (questions p ins s) ≡ k ∷ ks)
  unfolding step
  step-first s e = stop-first (made (meaning p ins s) s) (refusals (questions p ins s)) e

  module _ (gp : T (good_program p)) (gi : T (good_inputs ins)) where
    abbrev program : ProgramFacts p
    program = open-program p gp

    module _ (s : State) (g : T (good_state p ins s)) where
      abbrev state : StateFacts p ins s
      state = open-state p ins s g

      abbrev stored_facts : StoreFacts ins s.store
      stored_facts = open-store ins s.store state.store

      -- the next instruction has arguments that are listed for it
      pub instr-good : T (good_instr p (instr_at p s.next))
      instr-good = all-at (good_instr p) p.code program.instructions s.next no_instr state.next

      pub state-sound : Sound ins s.store
      state-sound = stored_facts.sound

      module _ {t : State} (e : step p ins s ≡ went t) where
        row-asks : (n : ℕ) → T (among n numbers) → T ((meaning p ins s).0 n)
        row-asks n m = T-left ((meaning p ins s).0 n) (asks_after (meaning p ins s) s n) (step-asks s e n m)

        after-asks : (n : ℕ) → T (among n numbers) → T (asks_after (meaning p ins s) s n)
        after-asks n m = T-right ((meaning p ins s).0 n) (asks_after (meaning p ins s) s n) (step-asks s e n m)

        -- the state that the row makes
        abbrev after : State
        after = made (meaning p ins s) s

        after-keeps : Keeps ins s.store after.store
        unfolding meaning
        after-keeps =
            let i = instr_at p s.next in
            let ranged = (open-instr p i instr-good).first in
            row_keeps ins p s.store (open-inputs ins gi) state-sound i.first i.second i.third ranged i.op row-asks

        after-allowed : Allowed p (instr_at p s.next).op (meaning p ins s).2
        unfolding meaning
        after-allowed =
            let i = instr_at p s.next in
            row_goes p program.labels program.switches ins s.store i.line i.first i.second i.third i.op instr-good row-asks

        after-limits : T (fits after.store && leb (length after.stack) limit.stack)
        after-limits = T-left (fits after.store && leb (length after.stack) limit.stack) true (after-asks 59 tt)

        after_store : StoreFacts ins after.store
        after_store =
            let f = stored_facts in
            let k = after-keeps.shape in
            record {
              exprs = k.exprs ∙ f.exprs;
              files = k.files ∙ f.files;
              outputs = k.outputs ∙ f.outputs;
              places = k.places ∙ f.places;
              limits = T-left (fits after.store) (leb (length after.stack) limit.stack) after-limits;
              given = leb→le after.store.last limit.addresses (after-asks 60 tt);
              sound = keeps-sound ins after-keeps state-sound;
            }

        after-state : StateFacts p ins after
        after-state =
            let g = (meaning p ins s).2 in
            let goes = T-left (can_go g s.stack) true (T-left (can_go g s.stack && true) true (after-asks 57 tt)) in
            record {
              store = shut-store ins after.store after_store;
              next = gone-in p program s.next s.stack state.next state.returns g after-allowed goes;
              depth = leb→le (length after.stack) limit.stack (T-right (fits after.store) (leb (length after.stack) limit.stack) after-limits);
              returns = gone-returns p program s.next s.stack state.returns g after-allowed;
            }

        pub step_keeps : Keeps ins s.store t.store
        step_keeps = subst (λ (u : State). Keeps ins s.store u.store) (step-made s e) after-keeps

        pub step-good : T (good_state p ins t)
        step-good = subst (λ (u : State). T (good_state p ins u)) (step-made s e) (shut-state p ins after after-state)

        -- an address that was given and that no record has, no record gets
        pub step-deleted : (n : ℕ) → n ≤ s.store.last → times n s.store ≡ 0 → times n t.store ≡ 0
        step-deleted = keeps-deleted ins step_keeps

    -- no two records of a well-formed state share an address
    pub state-once : (s : State) → T (good_state p ins s) → (n : ℕ) → times n s.store ≤ 1
    state-once s g = sound-once ins (state-sound s g)

    -- Runs

    pub goes-good : {n : ℕ} {s t : State} → Goes (step p ins) n s t → T (good_state p ins s) → T (good_state p ins t)
    goes-good here g = g
    goes-good (on {s = s} e w) g = goes-good w (step-good s g e)

    pub run-good : (b : ℕ) (s : State) → T (good_state p ins s) → T (good_state p ins (run (step p ins) b s).state)
    run-good b s g = goes-good (run-lawful (step p ins) b s).goes g
