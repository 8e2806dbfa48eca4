-- A call by what is found of it.
use Rattle.std.specs.Prelude.{Some, None, ◌≡◌, refl, Bool, true, ◌&&◌, List, [], ◌∷◌, map, ℕ, zero, suc, ◌+◌, ◌-◌, ◌≤◌, ◌<◌, eqb, leb, length, get_or}
use Rattle.std.proofs.Common.{sym, ap, ◌∙◌, true≢false, arith, leb-true}
use Rattle.std.proofs.Math.Bool.{false}
use Rattle.std.proofs.lemmas.Option.{none-some, same_Some}
use Rattle.std.proofs.lemmas.Bool.{false≢true, and_parts}
use Rattle.macros.specs.Expansion.{fault, places_of, called_by, argument_faults, Writing, just, too_deep, filled_in, entered, piece_writes, expand, levels}
use Rattle.macros.specs.Pieces.Piece.{called}
use Rattle.macro_code.specs.Code.{high, given_in, call_in, change_in, body_in, macro_in, macros_in}
use Rattle.macro_code.specs.Known.{Only}
use Rattle.macro_code.specs.Places as place
use Rattle.macro_calls.specs.FaultLaws.{only-uneven}
use Rattle.statements.specs.Faults.{lower}
use Rattle.statements.specs.FaultLaws.{no-fault}
use Rattle.statements.specs.StatementAt.{fault_of}
use Rattle.statements.specs.Faults as told
use Rattle.std.specs.Prelude.{None, Some}
use Rattle.syntax.specs.Verdict.{lowest}
use Rattle.macro_memory.specs.Memory.{entered_writes, Found, Remembers}
use Rattle.macro_memory.specs.MemoryLaws.{absorbed-writes}
use Rattle.macro_memory.specs.declared.Slot.{Slot}
use Rattle.macro_values.specs.declared.Written.{Written}
use Rattle.macro_values.specs.WritingLaws.{lower-none-right, wrote_none, wrote-over}
use Rattle.macro_values.specs.Wrote.{is_over, size_of, Wrote}
use Rattle.macro_expansion.specs.declared.Step.{Step}
use Rattle.macro_expansion.specs.Expanding.{inner, is_at, arguments_at, change_writes, Judged}
use Rattle.macro_expansion.specs.Known.{Known}
use Rattle.macro_expansion.specs.CallLaws.{unknown-writes, faulty-writes, right-writes, no-uneven, some-uneven, wrote-faults, wrote-deep, inner-deep, inner-expands, quiet-writes, fixed-writes}
use Rattle.macro_expansion.specs.WalkLaws.{walk-one}

pub not-zero : (l : ℕ) → (l ≡ 0 → ⊥) → 1 ≤ l
not-zero zero e = absurd (e refl)
not-zero (suc l) e = omega arith

at_some : (f : told.Fault) → is_at f ≡ true → (p : ℕ) × (f ≡ Some p)
at_some None e = absurd (false≢true e)
at_some (Some p) e = (p, refl)

at_none : (f : told.Fault) → is_at f ≡ false → f ≡ None
at_none None e = refl
at_none (Some p) e = absurd (true≢false e)

module _ (s c f : List ℕ) (n : ℕ) (calls : List ℕ) (left i : ℕ) (v : Written) where
  -- a call that is passed
  judged-stay : (w : Writing) → change_writes s c f n calls left i ≡ w → (r : Step) → r.call ≡ None
      → ((o : List ℕ) → size_of v ≤ length o → Wrote w v r.state o o) → Judged s c f n calls left i v r
  judged-stay w e r z k =
      record {
        passed = λ y o l. rw e (k o l);
        waits = λ m y. absurd (none-some m (sym z ∙ y));
        enters = λ m y. absurd (none-some m (sym z ∙ y));
      }

  module _ (piece : (change_in s c i).pieces ≡ called (call_in s c i) ∷ []) where
    abbrev wanted : List ℕ
    wanted = filled_in (arguments_at s c calls left) (given_in s c (i + place.name_cell))

    call-writes : change_writes s c f n calls left i
        ≡ entered (macros_in s c f n) (inner (macros_in s c f n) left) (arguments_at s c calls left) (call_in s c i) (called_by (macros_in s c f n) wanted)
    unfolding piece_writes call_in
    call-writes = rw piece (walk-one (macros_in s c f n) (inner (macros_in s c f n) left) (arguments_at s c calls left) (called (call_in s c i)))

    -- its macro is not in the list once
    pub judge-unknown : eqb (length (called_by (macros_in s c f n) wanted)) 1 ≡ false → (r : Step) (u : Written) (p : ℕ) → r.state ≡ u → r.call ≡ None
        → p ≡ high c (i + place.name_cell) → (size_of u ≡ size_of v) × (is_over u ≡ is_over v) × (u.faults.unknown ≡ lower v.faults.unknown (Some p)) × (u.faults.uneven ≡ v.faults.uneven)
        → Judged s c f n calls left i v r
    unfolding call_in lowest
    judge-unknown h r u p e z q k =
        judged-stay (record { bytes = []; faults = fault 64 p ∷ []; deep = false })
        (rw q (call-writes ∙ unknown-writes (macros_in s c f n) (inner (macros_in s c f n) left) (arguments_at s c calls left) (call_in s c i) (called_by (macros_in s c f n) wanted) h))
        r z
        (λ o l. rw e (wrote-faults v u o l k.0 k.1 (fault 64 p ∷ []) k.2 (k.3 ∙ lower-none-right v.faults.uneven)))

    module _ (quiet loose : List ℕ) (alone : List Bool) (known : Known s c f n quiet loose alone) (most : left ≤ levels) (k m : ℕ) (only : Only s c f n wanted k) (cell : m ≡ get_or f k 0) (g : told.Fault)
        (counts : g ≡ fault_of (places_of 65 (argument_faults (call_in s c i) (macro_in s c m)))) where
      found : called_by (macros_in s c f n) wanted ≡ macro_in s c m ∷ []
      found = only.only ∙ ap (λ j. macro_in s c j ∷ []) (sym cell)

      -- it has another count of parameters
      pub judge-uneven : is_at g ≡ true → (r : Step) (u : Written) → r.state ≡ u → r.call ≡ None
          → (size_of u ≡ size_of v) × (is_over u ≡ is_over v) × (u.faults.unknown ≡ v.faults.unknown) × (u.faults.uneven ≡ lower v.faults.uneven g) → Judged s c f n calls left i v r
      judge-uneven b r u e z x =
          let fs = argument_faults (call_in s c i) (macro_in s c m) in
          let a = at_some g b in
          judged-stay (record { bytes = []; faults = fs; deep = false })
          (call-writes
          ∙ faulty-writes (macros_in s c f n) (inner (macros_in s c f n) left) (arguments_at s c calls left) (call_in s c i) (called_by (macros_in s c f n) wanted) (macro_in s c m)
          found (some-uneven fs a.0 (sym counts ∙ a.1)))
          r z
          (λ o l. rw e (wrote-faults v u o l x.0 x.1 fs
          (x.2 ∙ lower-none-right v.faults.unknown ∙ ap (λ ps. lower v.faults.unknown (fault_of ps)) (sym (only-uneven (call_in s c i) (macro_in s c m))))
          (x.3 ∙ ap (lower v.faults.uneven) counts)))

      module _ (fine : is_at g ≡ false) where
        abbrev given : List (List ℕ)
        given = map (filled_in (arguments_at s c calls left)) (call_in s c i).args

        right : change_writes s c f n calls left i ≡ inner (macros_in s c f n) left given (body_in s c m)
        unfolding macro_in
        right =
            call-writes
            ∙ right-writes (macros_in s c f n) (inner (macros_in s c f n) left) (arguments_at s c calls left) (call_in s c i) (called_by (macros_in s c f n) wanted) (macro_in s c m)
            found (no-uneven (call_in s c i) (macro_in s c m) (no-fault (places_of 65 (argument_faults (call_in s c i) (macro_in s c m))) (sym counts ∙ at_none g fine)))

        -- it is too deep
        pub judge-deep : left ≡ 0 → (r : Step) (u : Written) → r.state ≡ u → r.call ≡ None
            → (is_over u ≡ true) × (u.faults.unknown ≡ v.faults.unknown) × (u.faults.uneven ≡ v.faults.uneven) → Judged s c f n calls left i v r
        judge-deep y r u e z x =
            judged-stay too_deep (right ∙ inner-deep (macros_in s c f n) left given (body_in s c m) y) r z
            (λ o l. rw e (wrote-deep v u o x.0 x.1 x.2))

        module _ (some : left ≡ 0 → ⊥) where
          entering : change_writes s c f n calls left i ≡ expand (macros_in s c f n) (left - 1) given (body_in s c (get_or f k 0))
          entering = right ∙ inner-expands (macros_in s c f n) left given (body_in s c m) some ∙ ap (λ j. expand (macros_in s c f n) (left - 1) given (body_in s c j)) cell

          below : left - 1 < levels
          below = let y : 1 ≤ left = not-zero left some in omega arith

          -- it is quiet
          pub judge-quiet : get_or quiet k 0 < left → (r : Step) → r.state ≡ v → r.call ≡ None → Judged s c f n calls left i v r
          judge-quiet y r e z =
              judged-stay (just []) (entering ∙ quiet-writes s c f n quiet loose known.heights k (left - 1) only.listed given below (omega arith)) r z
              (λ o l. rw e (wrote_none v o l))

          -- it meets no fault, and nothing more is written
          pub judge-settled : ((is_over v) && leb left (get_or loose k 0)) ≡ true → (r : Step) → r.state ≡ v → r.call ≡ None → Judged s c f n calls left i v r
          judge-settled y r e z =
              let w = expand (macros_in s c f n) (left - 1) given (body_in s c (get_or f k 0)) in
              let x : left ≤ get_or loose k 0 = leb-true left (get_or loose k 0) (and_parts (is_over v) (leb left (get_or loose k 0)) y).1 in
              let j = below in
              judged-stay w entering r z
              (λ o l. rw e (wrote-over w v o l (and_parts (is_over v) (leb left (get_or loose k 0)) y).0
              (fixed-writes s c f n quiet loose known.heights k (left - 1) only.listed given below (omega arith))))

          -- it is remembered
          pub judge-found : (slots : List Slot) → Found s c slots calls left i m → Remembers s c f n slots v → (r : Step) → r.state ≡ v → r.call ≡ None → Judged s c f n calls left i v r
          judge-found slots y q r e z =
              judged-stay (entered_writes s c f n calls left i m) (right ∙ inner-expands (macros_in s c f n) left given (body_in s c m) some) r z
              (λ o l. rw e (absorbed-writes (entered_writes s c f n calls left i m) v o (y.changes_nothing f n v q) l))

          -- it is entered
          pub judge-enters : m < place.half → (r : Step) → r.state ≡ v → r.call ≡ Some m → Judged s c f n calls left i v r
          judge-enters y r e z =
              record {
                passed = λ a. absurd (none-some m (sym a ∙ z));
                waits = λ j a. e;
                enters = λ j a.
                    rw (same_Some j m (sym a ∙ z))
                    (record {
                      deeper = not-zero left some;
                      body = y;
                      writes = right ∙ inner-expands (macros_in s c f n) left given (body_in s c m) some;
                    });
              }
