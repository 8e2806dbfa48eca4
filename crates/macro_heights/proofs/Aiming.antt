-- The macro of a right call.
use mathlib.Core.Path.{◌≡◌, refl, sym, ap, ◌∙◌}
use mathlib.Core.Bool.{Bool, true, false, cond, not, ◌&&◌, true≢false, false≢true}
use mathlib.Core.List.{List, [], ◌∷◌, map, append-nil}
use Prim.Native.Nat.{ℕ, ◌+◌}
use native.Mathlib.Omega.{arith}
use Rattle.std.specs.Bool.{then_some}
use Rattle.std.specs.Prelude.{Option, Some, None, is_some}
use lib.Dec.{eqb, ltb}
use lib.ListN.{length, get_or, take, drop}
use Rattle.lists.specs.Lists.{filled}
use Rattle.macros.specs.Expansion.{fault, called_by, argument_faults, faults_of, places_of}
use Rattle.macros.specs.Macros.{Macro}
use Rattle.macros.specs.Pieces.{Call, Piece}
use Rattle.macros.specs.Pieces.Given.{typed, parameter, joined}
use Rattle.macros.specs.Silence.{right_macro, right_call}
use Rattle.macro_code.specs.Code.{high, low, bytes_at, given_in, is_call, call_in, macro_in, macros_in}
use Rattle.macro_code.specs.Places.{kind_cell, name_cell, typed_kind, parameter_kind}
use Rattle.macro_calls.specs.Calls.{is_typed_call, Finds, Counts}
use Rattle.statements.specs.StatementAt.{fault_of}
use Rattle.statements.specs.FaultLaws.{no-fault}
use Rattle.statements.specs.Faults.{Fault}
use Rattle.std.specs.Prelude.{None, Some}
use Rattle.macro_heights.specs.Levels.{RightBy, NeverRight, Aims}

-- as to the count of arguments
counts-filled : (d : Call) (m : Macro) → filled (argument_faults d m) ≡ filled (places_of 65 (argument_faults d m))
unfolding argument_faults
counts-filled d m = go (ltb (length d.args) (length m.params)) (take 1 (drop (length m.params) d.arg_places))
  where
    go : (b : Bool) (ps : List ℕ) → filled (cond b (fault 65 d.name_at ∷ []) (map (fault 65) ps)) ≡ filled (places_of 65 (cond b (fault 65 d.name_at ∷ []) (map (fault 65) ps)))
    go true ps = refl
    go false [] = refl
    go false (p ∷ ps) = refl

fault-filled : (ps : List ℕ) {p : ℕ} → Some p ≡ fault_of ps → filled ps ≡ true
fault-filled [] e = absurd (let y : ◌≡◌ {A = ℕ} 0 1 = cc in omega arith)
fault-filled (q ∷ ps) e = refl

module _ (ms : List Macro) (passes : List Piece → Bool) (d : Call) where
  one_right : (m : Macro) → right_macro ms passes d (m ∷ []) ≡ (not (filled (argument_faults d m)) && passes m.body)
  unfolding right_macro faults_of
  one_right m = rw (append-nil (argument_faults d m)) refl

  -- not in the list once
  other-right : (ns : List Macro) → eqb (length ns) 1 ≡ false → right_macro ms passes d ns ≡ false
  unfolding right_macro faults_of
  other-right [] e = refl
  other-right (m ∷ ns) e = rw e refl

module _ (s c firsts : List ℕ) (n i : ℕ) where
  abbrev ms : List Macro
  ms = macros_in s c firsts n

  abbrev d : Call
  d = call_in s c i

  -- by a parameter
  pub aims-untyped : {b : Bool} → b ≡ is_typed_call c i → b ≡ false → NeverRight s c firsts n i
  unfolding call_in given_in right_call
  aims-untyped {b} e f =
      record { is = λ t passes. go (is_call c i) (eqb (high c (i + name_cell + kind_cell)) typed_kind) (eqb (high c (i + name_cell + kind_cell)) parameter_kind) t (sym e ∙ f) passes }
    where
      go : (a g p : Bool) → a ≡ true → (a && g) ≡ false → (passes : List Piece → Bool)
          → right_call ms passes (call_in s c i) (cond g (typed (bytes_at s c (i + name_cell))) (cond p (parameter (low c (i + name_cell + kind_cell))) (joined (bytes_at s c (i + name_cell)) (low c (i + name_cell + kind_cell)))))
          ≡ false
      go false g p t u passes = absurd (false≢true t)
      go true true p t u passes = absurd (true≢false u)
      go true false true t u passes = refl
      go true false false t u passes = refl

  module _ {b : Bool} (e : b ≡ is_typed_call c i) (f : b ≡ true) where
    typed-right : (passes : List Piece → Bool) → right_call ms passes d d.name ≡ right_macro ms passes d (called_by ms (bytes_at s c (i + name_cell)))
    unfolding call_in given_in right_call
    typed-right passes = go (is_call c i) (eqb (high c (i + name_cell + kind_cell)) typed_kind) refl (sym e ∙ f)
      where
        go : (a g : Bool) → eqb (high c (i + name_cell + kind_cell)) typed_kind ≡ g → (a && g) ≡ true
            → right_call ms passes d d.name ≡ right_macro ms passes d (called_by ms (bytes_at s c (i + name_cell)))
        go false g u v = absurd (false≢true v)
        go true false u v = absurd (false≢true v)
        go true true u v = rw u refl

    pub aims-lost : Finds s c firsts n (bytes_at s c (i + name_cell)) None → NeverRight s c firsts n i
    aims-lost found = record { is = λ t passes. typed-right passes ∙ other-right ms passes d (called_by ms (bytes_at s c (i + name_cell))) (sym found.once_is) }

    module _ {k : ℕ} (found : Finds s c firsts n (bytes_at s c (i + name_cell)) (Some k)) where
      module _ {m : ℕ} (at : m ≡ get_or firsts k 0) {x : Fault} (counts : Counts c i m x) where
        abbrev target : Macro
        target = macro_in s c (get_or firsts k 0)

        found_right : (passes : List Piece → Bool) → right_call ms passes d d.name ≡ (not (filled (places_of 65 (argument_faults d target))) && passes target.body)
        found_right passes =
            typed-right passes ∙ ap (right_macro ms passes d) found.only.only ∙ one_right ms passes d target
            ∙ ap (λ z. not z && passes target.body) (counts-filled d target)

        fault_is : x ≡ fault_of (places_of 65 (argument_faults d target))
        fault_is = rw at at (counts.is s)

        aims-uneven : {p : ℕ} → x ≡ Some p → NeverRight s c firsts n i
        aims-uneven u =
            record { is = λ t passes. found_right passes ∙ ap (λ z. not z && passes target.body) (fault-filled (places_of 65 (argument_faults d target)) (sym u ∙ fault_is)) }

        aims-right : x ≡ None → RightBy s c firsts n i k
        unfolding macro_in
        aims-right u =
            record {
              listed = found.only.listed;
              is = λ t passes. found_right passes
                  ∙ ap (λ z. not (filled z) && passes target.body) (no-fault (places_of 65 (argument_faults d target)) (sym fault_is ∙ u));
            }

        -- as the code asks
        pub aims-counted : (b : Bool) → is_some x ≡ not b → {r : Option ℕ} → r ≡ then_some b k → Aims s c firsts n i r
        aims-counted b u {r} v = rw v (go b x refl u)
          where
            go : (a : Bool) (y : Fault) → x ≡ y → is_some y ≡ not a → Aims s c firsts n i (then_some a k)
            go true None z w = aims-right z
            go true (Some p) z w = absurd (true≢false w)
            go false None z w = absurd (false≢true w)
            go false (Some p) z w = aims-uneven z
