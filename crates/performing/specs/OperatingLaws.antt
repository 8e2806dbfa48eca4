-- From what a family's function promises on the row of decoded operands to what is promised on the next instruction's meaning.
use Rattle.std.specs.Prelude.{◌≡◌, not, List, ℕ, suc, ◌≤◌, ◌<◌, T, length}
use Rattle.std.proofs.Common.{sym, subst, ⊎_elim, arith, eq-or-lt_of_le}
use Rattle.language.specs.Instructions.{operation, is_end}
use Rattle.language.specs.Limits as limit
use Rattle.language.specs.Program.{Arg, Op}
use Rattle.language.specs.Values.{State}
use Rattle.machine.specs.Effects.{Row, row}
use Rattle.machine.proofs.WellFormedLaws.{open-state}
use Rattle.layout.specs.Table.{program_of}
use Rattle.layout.proofs.ArgumentLaws.{operator-back}
use Rattle.layout.proofs.TableLaws.{table-facts}
use Rattle.packed.specs.Packed.{table_of}
use Rattle.decoding.specs.OperandLaws.{has-following, meaning-is}
use Rattle.instructions.specs.Does.{Does, Goes}
use Rattle.table.specs.Denote.{arg_of}
use Rattle.table.specs.declared.Argument.{Argument}
use Rattle.performing.specs.Stepping.{inputs}
use Rattle.performing.specs.Performing.{Performing, next_row, Performs, Leads}
use Rattle.performing.specs.Operating.{Carrying}

-- a rule of m, and of the numbers after it
pub from : (P : ℕ → Type 0) (m : ℕ) {n : ℕ} → P m → (suc m ≤ n → P n) → m ≤ n → P n
from P m a f h = ⊎_elim (λ q. subst P q a) f (eq-or-lt_of_le h)

-- past a number that it is not
pub past : {m n : ℕ} → m ≤ n → (n ≡ m → ⊥) → suc m ≤ n
past h k = omega (arith, h, k)

pub carrying : {c i j : List ℕ} {σ : State} {op : Op} {x y z : Argument} → Performing c i j σ op x y z → Carrying c σ op x y z
carrying {c} {i} {j} {σ} w =
    record {
      table = w.ready.table;
      inside = (open-state (program_of c) (inputs i j) σ w.ready.good).next;
      read = w.read;
    }

module _ {c : List ℕ} {σ : State} {op : Op} {x y z : Argument} (w : Carrying c σ op x y z) where
  pub long : limit.table ≤ length c
  long = (table-facts c w.table).long

  -- where the operator does not end
  pub following : T (not (is_end (operation op).flow)) → suc σ.next < limit.instructions
  following h =
      has-following c w.table σ.next w.inside w.read (subst (λ (o : Op). T (not (is_end (operation o).flow))) (sym (operator-back op)) h)

  -- by its operands
  module _ (a b d : Arg) (q : arg_of (table_of c) x ≡ a) (r : arg_of (table_of c) y ≡ b) (t : arg_of (table_of c) z ≡ d) (i j : List ℕ) where
    abbrev known : Row
    known = row (program_of c) (inputs i j) σ.store a b d op

    meant : next_row c i j σ ≡ known
    meant =
        subst (λ (o : Op). next_row c i j σ ≡ row (program_of c) (inputs i j) σ.store a b d o) (operator-back op)
        (meaning-is c (inputs i j) σ a b d w.read q r t)

    module _ {told : ℕ} {σ' : State} where
      pub performs : Does σ told σ' known → Performs c i j σ told σ'
      performs h = subst (λ (m : Row). Does σ told σ' m) (sym meant) h

      pub led : Goes σ told σ' known → Leads c i j σ told σ'
      led h = subst (λ (m : Row). Goes σ told σ' m) (sym meant) h
