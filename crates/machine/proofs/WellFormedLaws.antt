-- From the tests of well-formed programs, inputs and states to the facts that proofs use, and back; and `started` is well formed.
use Rattle.std.specs.Prelude.{◌≡◌, refl, Bool, ◌&&◌, List, [], ◌∷◌, ℕ, zero, suc, ◌≤◌, ◌<◌, eqb, drop}
use Rattle.std.proofs.Common.{arith, le→leb, lt→ltb}
use Rattle.std.proofs.Math.Decide.{dec_le}
use Rattle.std.proofs.Math.Dec.{T, leb, ltb, leb→le, ltb→lt, eqb→eq}
use Rattle.std.proofs.Math.ListN.{length}
use Rattle.std.proofs.Math.Facts.{yes_eqb}
use Rattle.language.specs.Below.Lists.{total, all}
use Rattle.language.specs.Below.ListLaws.{T-left, T-right, T-both, part, Passed, parts, all_head, all_tail, none-fail}
use Rattle.language.specs.Below.Characters.{known}
use Rattle.language.specs.Limits as limit
use Rattle.language.specs.Program.{Instr, Label, Program, identifier}
use Rattle.language.specs.Values.{Store, State, Inputs}
use Rattle.machine.specs.Changes.{held, recorded, fits}
use Rattle.machine.specs.WellFormed.{ranged, listed, good_instr, good_label, program_tests, good_program, good_inputs, strange, overrun, store_faults, addresses, store_tests, good_store, state_tests, good_state, started}
use Rattle.machine.specs.Addresses.{count_of, times, uses}
use Rattle.machine.specs.Keeps.{Sound}
use Rattle.machine.specs.Facts.{InstrFacts, LabelFacts, ProgramFacts, StoreFacts, StateFacts}
use Rattle.machine.proofs.AddressLaws.{ungiven-le, ungiven-old, ungiven-new, counted-all, all-counted, different-once, once-different, times-is}

-- Programs (62)

module _ (p : Program) where
  pub open-instr : (i : Instr) → T (good_instr p i) → InstrFacts p i
  unfolding good_instr
  open-instr i h =
      let b = ranged p i.first in
      let c = ranged p i.second in
      let d = ranged p i.third in
      let h₅ = T-left (listed p i && b && c && d && ltb 0 i.line) (leb i.line limit.text) h in
      let h₄ = T-left (listed p i && b && c && d) (ltb 0 i.line) h₅ in
      let h₃ = T-left (listed p i && b && c) d h₄ in
      let h₂ = T-left (listed p i && b) c h₃ in
      record {
        forms = T-left (listed p i) b h₂;
        first = T-right (listed p i) b h₂;
        second = T-right (listed p i && b) c h₃;
        third = T-right (listed p i && b && c) d h₄;
        line_from = ltb→lt 0 i.line (T-right (listed p i && b && c && d) (ltb 0 i.line) h₅);
        line_to = leb→le i.line limit.text (T-right (listed p i && b && c && d && ltb 0 i.line) (leb i.line limit.text) h);
      }

  pub open-label : (l : Label) → T (good_label p l) → LabelFacts p l
  unfolding good_label
  open-label l h =
      let b = identifier l.name in
      let c = leb (length l.name) limit.item in
      let d = ltb l.target (length p.code) in
      let k = T-left (b && c) d h in
      record {
        name = T-left b c k;
        short = leb→le (length l.name) limit.item (T-right b c k);
        target = ltb→lt l.target (length p.code) (T-right (b && c) d h);
      }

  pub open-program : T (good_program p) → ProgramFacts p
  unfolding good_program
  open-program h =
      let t = part (program_tests p) h in
      record {
        filled = ltb→lt 0 (length p.code) (t 0);
        code_short = leb→le (length p.code) limit.instructions (t 1);
        labels_few = leb→le (length p.labels) limit.labels (t 2);
        switches_few = leb→le (length p.switches) limit.switches (t 3);
        entries_few = leb→le (total (λ w. length w.entries) p.switches) limit.entries (t 4);
        texts_few = leb→le (length p.texts) limit.texts (t 5);
        numbers_few = leb→le (length p.numbers) limit.numbers (t 6);
        instructions = t 7;
        labels = t 8;
        switches = t 9;
        ends = t 14;
      }

-- Inputs (61)

inputs-known : (ws : List (List ℕ)) → T (all (λ w. leb (length w) limit.input && all known w) ws) → total (total strange) ws ≡ 0
inputs-known [] h = refl
inputs-known (w ∷ ws) h =
    let f : List ℕ → Bool = λ w. leb (length w) limit.input && all known w in
    omega (arith, none-fail known w (T-right (leb (length w) limit.input) (all known w) (all_head f w ws h)), inputs-known ws (all_tail f w ws h))

pub open-inputs : (ins : Inputs) → T (good_inputs ins) → total (total strange) ins ≡ 0
unfolding good_inputs
open-inputs ins h = inputs-known ins (T-right (eqb (length ins) limit.inputs) _ h)

-- Stores and states (63)

module _ (ins : Inputs) (s : Store) where
  open-sound : T (good_store ins s) → Sound ins s
  unfolding good_store
  open-sound h =
      record {
        once = λ n. once n (dec_le 1 (times n s));
        from_1 = zero-none (dec_le 1 (times 0 s));
        no_faults = eqb→eq (store_faults ins s.last s) 0 (part (store_tests ins s) h 6);
      }
    where
      within : (n : ℕ) → 1 ≤ times n s → T (ltb 0 n && leb n s.last)
      within n k = counted-all (λ m. ltb 0 m && leb m s.last) (addresses s) (part (store_tests ins s) h 7) n (omega (arith, times-is n s))

      zero-none : Dec (1 ≤ times 0 s) → times 0 s ≡ 0
      zero-none (yes k) = absurd (T-left (ltb 0 0) (leb 0 s.last) (within 0 k))
      zero-none (no k) = omega arith

      once : (n : ℕ) → Dec (1 ≤ times n s) → uses n s ≤ 1
      once n (yes k) =
          omega (
            arith,
            times-is n s,
            different-once n (addresses s) (part (store_tests ins s) h 8),
            ungiven-old (leb→le n s.last (T-right (ltb 0 n) (leb n s.last) (within n k))),
          )
      once n (no k) = omega (arith, ungiven-le s.last n)

  pub open-store : T (good_store ins s) → StoreFacts ins s
  unfolding good_store
  open-store h =
      let t = part (store_tests ins s) h in
      record {
        exprs = eqb→eq (length s.exprs) limit.expressions (t 0);
        files = eqb→eq (length s.files) limit.files (t 1);
        outputs = eqb→eq (length s.outputs) limit.outputs (t 2);
        places = eqb→eq (length s.places) limit.inputs (t 3);
        limits = t 4;
        given = leb→le s.last limit.addresses (t 5);
        sound = open-sound h;
      }

  pub shut-store : StoreFacts ins s → T (good_store ins s)
  unfolding good_store
  shut-store f =
      let records-parts : Passed (drop 6 (store_tests ins s)) = (yes_eqb f.sound.no_faults, (within, (once-different (addresses s) once, tt))) in
      let limits-parts : Passed (drop 4 (store_tests ins s)) = (f.limits, (le→leb s.last limit.addresses f.given, records-parts)) in
      parts (store_tests ins s) (yes_eqb f.exprs, (yes_eqb f.files, (yes_eqb f.outputs, (yes_eqb f.places, limits-parts))))
    where
      positive : (n : ℕ) → 1 ≤ times n s → 0 < n
      positive zero k = absurd (omega (arith, f.sound.from_1))
      positive (suc n) k = omega arith

      below : (n : ℕ) → 1 ≤ times n s → Dec (n ≤ s.last) → n ≤ s.last
      below n k (yes l) = l
      below n k (no l) = absurd (omega (arith, f.sound.once n, ungiven-new {l = s.last} {n = n} (omega arith)))

      given : (n : ℕ) → 1 ≤ times n s → T (ltb 0 n && leb n s.last)
      given n k = T-both (ltb 0 n) (leb n s.last) (lt→ltb 0 n (positive n k)) (le→leb n s.last (below n k (dec_le n s.last)))

      once : (n : ℕ) → count_of n (addresses s) ≤ 1
      once n = omega (arith, times-is n s, f.sound.once n)

      within : T (all (λ n. ltb 0 n && leb n s.last) (addresses s))
      within =
          all-counted (λ n. ltb 0 n && leb n s.last) (addresses s)
          (λ n h. given n (omega (arith, times-is n s)))

module _ (p : Program) (ins : Inputs) (s : State) where
  pub open-state : T (good_state p ins s) → StateFacts p ins s
  unfolding good_state
  open-state h =
      let t = part (state_tests p ins s) h in
      record {
        store = t 0;
        next = ltb→lt s.next (length p.code) (t 1);
        depth = leb→le (length s.stack) limit.stack (t 2);
        returns = t 3;
      }

  pub shut-state : StateFacts p ins s → T (good_state p ins s)
  unfolding good_state
  shut-state f =
      parts (state_tests p ins s)
      (f.store, (lt→ltb s.next (length p.code) f.next, (le→leb (length s.stack) limit.stack f.depth, (f.returns, tt))))

-- The state that start makes

read_from-0 : (ins : Inputs) → overrun (0 ∷ 0 ∷ []) ins ≡ 0
read_from-0 [] = refl
read_from-0 (w ∷ []) = omega arith
read_from-0 (w ∷ v ∷ ins) = omega arith

started-faults : (ins : Inputs) → store_faults ins 0 started.store ≡ 0
unfolding store_faults started
started-faults ins = omega (arith, read_from-0 ins)

started-store : (ins : Inputs) → T (good_store ins started.store)
unfolding good_store started fits held recorded
started-store ins =
    parts (store_tests ins started.store) (tt, (tt, (tt, (tt, (tt, (tt, (rw (started-faults ins) tt, (tt, (tt, tt)))))))))

pub started-good : (p : Program) (ins : Inputs) → T (good_program p) → T (good_state p ins started)
unfolding started
started-good p ins g =
    shut-state p ins started (record { store = started-store ins; next = (open-program p g).filled; depth = omega arith; returns = tt })
