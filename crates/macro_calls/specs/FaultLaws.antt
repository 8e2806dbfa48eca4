-- The faults of bodies by their changes, of a change by what its cells hold, and questions 64 and 65 of some faults.
use Rattle.std.specs.Prelude.{◌≡◌, Bool, ◌&&◌, eqb, length, take, drop}
use Rattle.std.proofs.Math.Path.{refl, sym, ap}
use Rattle.std.proofs.Common.{◌∙◌, true≢false, add-one}
use Rattle.std.proofs.Math.Bool.{true, false, cond}
use Rattle.std.proofs.lemmas.Bool.{false≢true}
use mathlib.Core.List.{List, [], ◌∷◌, ◌++◌, map, append-nil}
use Prim.Native.Nat.{ℕ, zero, suc, ◌+◌, ◌*◌, ◌≤◌, ◌<◌}
use native.Mathlib.Omega.{arith}
use borrow.Author.Tests.{eqb-true, lt-ltb, le-ltb}
use Rattle.std.proofs.Math.Dec.{ltb}
use Rattle.layout.specs.Cells.{tab}
use Rattle.layout.proofs.CellLaws.{length-tab}
use Rattle.lists.specs.Lists.{each}
use Rattle.macros.specs.Expansion as met
use Rattle.macros.specs.Expansion.{fault, called_by, faults_of, argument_faults, places_of}
use Rattle.macros.proofs.FaultLaws.{places-both}
use Rattle.macros.specs.Macros.{Macro}
use Rattle.macros.specs.Pieces.{Call, Change, pieces_from}
use Rattle.macros.specs.Pieces.Given.{typed, parameter, joined}
use Rattle.macros.specs.Pieces.Piece.{value, called}
use Rattle.macros.specs.Prepared.{typed_faults, piece_faults}
use Rattle.macro_code.specs.Code.{high, low, bytes_at, given_in, is_value, is_call, argument_count, argument_cell, call_in, change_in, size_at, changes_in, behind_changes, first_change, change_count, body_in, macro_in, parameter_count}
use Rattle.macro_code.specs.Places.{parameter_cells, kind_cell, name_cell, typed_kind, parameter_kind}
use Rattle.statements.specs.FaultLaws.{fault-both}
use Rattle.statements.specs.Faults.{lower}
use Rattle.statements.specs.StatementAt.{fault_of}
use Rattle.statements.specs.Faults.{Fault}
use Rattle.std.specs.Prelude.{None, Some}
use Rattle.syntax.specs.Verdict.{lowest}
use Rattle.macro_code.specs.Bounds.{widest}
use Rattle.macro_calls.specs.Calls.{is_typed_call, change_faults, Told, none_of, both_of}
use Rattle.macro_calls.specs.TableLaws.{each_append, drop-next, drop-end}
use Rattle.macro_code.specs.declared.faults.Faults.{Faults}

-- changes one after the other

module _ (s c : List ℕ) where
  changes-suc : (i k : ℕ) → changes_in s c i (suc k) ≡ changes_in s c i k ++ (change_in s c (behind_changes c i k) ∷ [])
  unfolding changes_in behind_changes
  changes-suc i zero = refl
  changes-suc i (suc k) = ap (λ ds. change_in s c i ∷ ds) (changes-suc (i + size_at c i) k)

  pub changes-next : (i k : ℕ) → changes_in s c i (k + 1) ≡ changes_in s c i k ++ (change_in s c (behind_changes c i k) ∷ [])
  changes-next i k = rw add-one (changes-suc i k)

module _ (c : List ℕ) where
  behind-suc : (i k : ℕ) → behind_changes c i (suc k) ≡ behind_changes c i k + size_at c (behind_changes c i k)
  unfolding behind_changes
  behind-suc i zero = refl
  behind-suc i (suc k) = behind-suc (i + size_at c i) k

  pub behind-next : (i k : ℕ) → behind_changes c i (k + 1) ≡ behind_changes c i k + size_at c (behind_changes c i k)
  behind-next i k = rw add-one (behind-suc i k)

  pub size-most : (i : ℕ) → size_at c i ≤ widest
  unfolding size_at
  size-most i = go (is_call c i)
    where
      go : (b : Bool) → cond b (argument_cell 0 (argument_count c i)) 2 ≤ widest
      go true = omega arith
      go false = omega arith

  pub behind-most : (i k : ℕ) → behind_changes c i k ≤ i + widest * k
  unfolding behind_changes
  behind-most i zero = omega arith
  behind-most i (suc k) = omega (arith, size-most i, behind-most (i + size_at c i) k)

-- where the faults of pieces are those of changes
module _ (ms : List Macro) where
  pub pieces-faults : (s : List ℕ) (place stop : ℕ) (cs : List Change) → each (piece_faults ms) (pieces_from s place stop cs) ≡ each (change_faults ms) cs
  unfolding pieces_from piece_faults
  pieces-faults s place stop [] = refl
  pieces-faults s place stop (d ∷ cs) =
      each_append (piece_faults ms) d.pieces (pieces_from s d.stop stop cs) ∙ ap (λ fs. change_faults ms d ++ fs) (pieces-faults s d.stop stop cs)

  pub body-faults : (s c : List ℕ) (q : ℕ) → each (piece_faults ms) (body_in s c q) ≡ each (change_faults ms) (changes_in s c (first_change c q) (change_count c q))
  unfolding body_in
  body-faults s c q = pieces-faults s _ _ (changes_in s c (first_change c q) (change_count c q))

typed-given : (s c : List ℕ) (i : ℕ) → eqb (high c (i + kind_cell)) typed_kind ≡ true → given_in s c i ≡ typed (bytes_at s c i)
unfolding given_in
typed-given s c i e = rw e refl

-- a change by its cells
module _ (ms : List Macro) (s c : List ℕ) (i : ℕ) where
  pub other-faults : is_typed_call c i ≡ false → change_faults ms (change_in s c i) ≡ []
  unfolding change_in piece_faults typed_faults call_in given_in
  other-faults h = go (is_value c i) (is_call c i) (eqb (high c (i + name_cell + kind_cell)) typed_kind) (eqb (high c (i + name_cell + kind_cell)) parameter_kind) h
    where
      w : List ℕ
      w = bytes_at s c (i + name_cell)

      k : ℕ
      k = low c (i + name_cell + kind_cell)

      call : Bool → Bool → Call
      call b d =
          record {
            at = high c i;
            name_at = high c (i + name_cell);
            name = cond b (typed w) (cond d (parameter k) (joined w k));
            args = tab (argument_count c i) (λ j. given_in s c (argument_cell i j));
            arg_places = tab (argument_count c i) (λ j. high c (argument_cell i j));
          }

      go : (v a b d : Bool) → (a && b) ≡ false → each (piece_faults ms) (cond v (value (low c (i + kind_cell)) ∷ []) (cond a (called (call b d) ∷ []) [])) ≡ []
      go true a b d e = refl
      go false false b d e = refl
      go false true true d e = absurd (true≢false e)
      go false true false true e = refl
      go false true false false e = refl

  pub called_faults : is_typed_call c i ≡ true → change_faults ms (change_in s c i) ≡ faults_of (call_in s c i) (called_by ms (bytes_at s c (i + name_cell)))
  unfolding change_in piece_faults typed_faults call_in
  called_faults h = go (is_value c i) refl (is_call c i) refl (eqb (high c (i + name_cell + kind_cell)) typed_kind) refl h
    where
      ds : List Macro
      ds = called_by ms (bytes_at s c (i + name_cell))

      one-kind : is_value c i ≡ true → is_call c i ≡ true → ⊥
      one-kind e f = omega (arith, eqb-true (high c (i + kind_cell)) 0 e, eqb-true (high c (i + kind_cell)) 1 f)

      go : (v : Bool) → is_value c i ≡ v → (a : Bool) → is_call c i ≡ a → (b : Bool) → eqb (high c (i + name_cell + kind_cell)) typed_kind ≡ b → (a && b) ≡ true
          → each (piece_faults ms) (cond v (value (low c (i + kind_cell)) ∷ []) (cond a (called (call_in s c i) ∷ []) [])) ≡ faults_of (call_in s c i) ds
      go v x false y b z f = absurd (false≢true f)
      go v x true y false z f = absurd (false≢true f)
      go true x true y true z f = absurd (one-kind x y)
      go false x true y true z f = append-nil (typed_faults ms (call_in s c i) (given_in s c (i + name_cell))) ∙ ap (typed_faults ms (call_in s c i)) (typed-given s c (i + name_cell) z)

-- questions 64 and 65 of two rows of faults
pub told_none : Told [] none_of
told_none = record { unknown_is = refl; uneven_is = refl }

pub told-both : {fs gs : List met.Fault} {a b : Faults} → Told fs a → Told gs b → Told (fs ++ gs) (both_of a b)
told-both {fs} {gs} {a} {b} h k =
    record {
      unknown_is = ap (λ x. lower x b.unknown) h.unknown_is ∙ ap (lower (fault_of (places_of 64 fs))) k.unknown_is
          ∙ sym (fault-both (places_of 64 fs) (places_of 64 gs)) ∙ ap fault_of (sym (places-both 64 fs gs));
      uneven_is = ap (λ x. lower x b.uneven) h.uneven_is ∙ ap (lower (fault_of (places_of 65 fs))) k.uneven_is
          ∙ sym (fault-both (places_of 65 fs) (places_of 65 gs)) ∙ ap fault_of (sym (places-both 65 fs gs));
    }

-- a call's faults: its macro is not in the list once; or it is the macro m
module _ (d : Call) where
  pub told-unknown : (ms : List Macro) → eqb (length ms) 1 ≡ false → Told (faults_of d ms) (record { unknown = Some d.name_at; uneven = None })
  unfolding faults_of lowest
  told-unknown ms e = rw e (record { unknown_is = refl; uneven_is = refl })

  -- of 65 alone
  pub only-uneven : (m : Macro) → places_of 64 (argument_faults d m) ≡ []
  unfolding argument_faults
  only-uneven m = go (ltb (length d.args) (length m.params)) (take 1 (drop (length m.params) d.arg_places))
    where
      none : (ps : List ℕ) → places_of 64 (map (fault 65) ps) ≡ []
      none [] = refl
      none (p ∷ ps) = none ps

      go : (b : Bool) (ps : List ℕ) → places_of 64 (cond b (fault 65 d.name_at ∷ []) (map (fault 65) ps)) ≡ []
      go true ps = refl
      go false ps = none ps

  pub told-known : (m : Macro) {f : Fault} → f ≡ fault_of (places_of 65 (argument_faults d m)) → Told (faults_of d (m ∷ [])) (record { unknown = None; uneven = f })
  unfolding faults_of
  told-known m e = rw (append-nil (argument_faults d m)) (record { unknown_is = sym (ap fault_of (only-uneven m)); uneven_is = e })

-- as many arguments as parameters, or not
module _ (s c : List ℕ) (i m : ℕ) where
  abbrev given : ℕ
  given = argument_count c i

  abbrev taken : ℕ
  taken = parameter_count c m

  abbrev places : List ℕ
  places = tab given (λ j. high c (argument_cell i j))

  counted : argument_faults (call_in s c i) (macro_in s c m) ≡ cond (ltb given taken) (fault 65 (high c (i + name_cell)) ∷ []) (map (fault 65) (take 1 (drop taken places)))
  unfolding argument_faults call_in macro_in
  counted = rw (length-tab given (λ j. given_in s c (argument_cell i j)), length-tab taken (λ j. bytes_at s c (m + parameter_cells + j))) refl

  pub too_few : given < taken → Some (high c (i + name_cell)) ≡ fault_of (places_of 65 (argument_faults (call_in s c i) (macro_in s c m)))
  unfolding lowest
  too_few h = rw (counted, lt-ltb given taken h) refl

  pub too_many : taken < given → Some (high c (argument_cell i taken)) ≡ fault_of (places_of 65 (argument_faults (call_in s c i) (macro_in s c m)))
  unfolding lowest
  too_many h =
      let l : ltb given taken ≡ false = le-ltb given taken (omega arith) in
      rw (counted, l, drop-next given (λ j. high c (argument_cell i j)) taken h) refl

  pub as_many : given ≡ taken → None ≡ fault_of (places_of 65 (argument_faults (call_in s c i) (macro_in s c m)))
  as_many h =
      let l : ltb given taken ≡ false = le-ltb given taken (omega arith) in
      rw (counted, l, drop-end given (λ j. high c (argument_cell i j)) taken (omega arith)) refl
