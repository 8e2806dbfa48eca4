-- From the next instruction read to what its family asks, and from the instruction carried out to a step.
use mathlib.Core.Path.{◌≡◌, refl, sym, ◌∙◌, subst}
use mathlib.Core.Bool.{Bool, true, false, not}
use mathlib.Core.List.{List}
use Prim.Native.Nat.{ℕ, suc, ◌<◌}
use native.Mathlib.Omega.{arith}
use lib.Dec.{T}
use lib.ListN.{length}
use Rattle.language.specs.Limits as limit
use Rattle.language.specs.Operators.{op_by}
use Rattle.language.specs.Program.{Op}
use Rattle.language.specs.Values.{State}
use Rattle.machine.specs.Effects.Go.{on}
use Rattle.machine.specs.Facts.{ProgramFacts}
use Rattle.machine.proofs.WellFormedLaws.{open-state}
use Rattle.layout.proofs.ProgramLaws.{program-ok}
use Rattle.layout.specs.Table.{program_of}
use Rattle.layout.proofs.TableLaws.{table-facts}
use Rattle.control.specs.Going.{going}
use Rattle.packed.specs.Packed.{table_of}
use Rattle.state.specs.Working.{HoldsState}
use Rattle.table.specs.GoodLaws.{good-instruction}
use Rattle.table.specs.Reads.{operator_number, Operated, IsInstruction}
use Rattle.table.specs.declared.Instruction.{Instruction}
use Rattle.perform_jumps.specs.Below.Stepping.{inputs, Steppable, Stepped}
use Rattle.perform_jumps.specs.Below.Performing.{leads, Performs}
use Rattle.perform_jumps.specs.Below.PerformingLaws.{stepped, stepped-stop, following, stepped-on, row_on, has-next}
use Rattle.perform_jumps.specs.Below.Operating.{LeadsFor}
use Rattle.perform_jumps.specs.Below.Places.{CarryingAt}
use Rattle.perform_jumps.specs.Below.PlaceLaws.{performing-none}
use Rattle.perform_jumps.specs.Jumping.{Jumping}
use Rattle.stepping.specs.Orders.{GoingOn}

is_true : {a b : Bool} → a ≡ b → a ≡ true → T b
is_true q r = subst (λ (x : Bool). T x) (sym r ∙ q) tt

is_false : {a b : Bool} → a ≡ b → a ≡ false → T (not b)
is_false q r = subst (λ (x : Bool). T (not x)) (sym r ∙ q) tt

-- ---- the next instruction

module _ {c i j : List ℕ} {σ : State} {k : ℕ} (w : Steppable c i j σ) (q : k ≡ σ.next) where
  code_in : k < length (program_of c).code
  code_in = rw q (open-state (program_of c) (inputs i j) σ w.good).next

  pub operated : Operated c k
  operated =
      let f : ProgramFacts (program_of c) = (program-ok (program_of c) (table-facts c w.table).good).facts in
      let g = good-instruction c w.table k code_in (operator_number (table_of c) k) refl in
      record {
        place = let h = code_in in let m = f.code_short in omega (arith, h, m);
        from = g.from;
        to = g.to;
      }

  module _ {r : Instruction} (s : IsInstruction (table_of c) k r) where
    carrying : CarryingAt c σ (op_by r.op) k
    carrying = record { table = w.table; place = operated.place; inside = code_in; next = q; instruction = r; is = s; operator = refl }

    module _ {b : Bool} (e : b ≡ leads (op_by r.op)) where
      pub jumping : b ≡ true → Jumping c σ (op_by r.op) k
      jumping t = record { carrying = carrying; leads = is_true e t }

      pub going_on : b ≡ false → GoingOn c i j σ (op_by r.op) k
      going_on f = record { performing = record { ready = w; carrying = carrying }; on = is_false e f }

-- ---- carried out

pub jumped : {c i j : List ℕ} {σ : State} {told : ℕ} {σ' : State} → LeadsFor c σ told σ' → Stepped c i j σ told σ'
jumped {c} {i} {j} {σ} h = stepped c i j σ (h i j)

module _ {c i j : List ℕ} {σ : State} {op : Op} {k : ℕ} (w : GoingOn c i j σ op k) {told : ℕ} {σ' : State} (h : Performs c i j σ told σ') where
  pub stopped : (told ≡ 0 → ⊥) → Stepped c i j σ told σ'
  stopped n = stepped-stop c i j σ h n

  module _ (e : told ≡ 0) where
    pub follows : suc σ'.next < limit.instructions
    follows = following c i j σ h e (has-next (performing-none w.performing) w.on)

    pub followed : {σ'' : State} → HoldsState σ'' (going on σ') → Stepped c i j σ 0 σ''
    followed {σ''} g = subst (λ (t : ℕ). Stepped c i j σ t σ'') e (stepped-on c i j σ h e (row_on (performing-none w.performing) w.on) g)
