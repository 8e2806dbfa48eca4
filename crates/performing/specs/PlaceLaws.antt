-- From an instruction by its place to the same by its arguments: those that were read there, and of the others what the cells have.
use Rattle.std.specs.Prelude.{List, ℕ, ◌+◌, ◌*◌}
use Rattle.std.proofs.Common.{sym, ap, ◌∙◌, subst}
use Rattle.language.specs.Instructions.{number_of}
use Rattle.language.specs.Program.{Op}
use Rattle.language.specs.Values.{State}
use Rattle.layout.specs.Places as layout
use Rattle.packed.specs.Packed.{table_of}
use Rattle.decoding.specs.Operands.{Read}
use Rattle.decoding.specs.OperandLaws.{read_all}
use Rattle.table.specs.Reads.{IsArgument}
use Rattle.table.specs.declared.Argument.{Argument}
use Rattle.performing.specs.Performing.{Performing}
use Rattle.performing.specs.Operating.{Carrying}
use Rattle.performing.specs.Places.{CarryingAt, PerformingAt}

-- r stands for argument n of instruction i
abbrev Argued : List ℕ → ℕ → ℕ → Argument → Type 0
Argued c n i r = IsArgument (table_of c) (n + (layout.first_instruction + 4 * i)) r

module _ {c : List ℕ} {σ : State} {op : Op} {i : ℕ} (w : CarryingAt c σ op i) where
  pub read-three : {x y z : Argument} → Argued c 1 i x → Argued c 2 i y → Argued c 3 i z → Carrying c σ op x y z
  read-three {x} {y} {z} f s t =
      record {
        table = w.table;
        inside = rw (sym w.next) w.inside;
        read = subst (λ (m : ℕ). Read c m (number_of op) x y z) w.next (read_all c w.table i w.inside (ap number_of (sym w.operator) ∙ w.is.number) f s t);
      }

  pub read-two : {x y : Argument} → Argued c 1 i x → Argued c 2 i y → Carrying c σ op x y w.instruction.z
  read-two f s = read-three f s w.is.third

  pub read-one : {x : Argument} → Argued c 1 i x → Carrying c σ op x w.instruction.y w.instruction.z
  read-one f = read-two f w.is.second

  pub read-none : Carrying c σ op w.instruction.x w.instruction.y w.instruction.z
  read-none = read-one w.is.first

module _ {c i j : List ℕ} {σ : State} {op : Op} {k : ℕ} (w : PerformingAt c i j σ op k) where
  pub performing-three : {x y z : Argument} → Argued c 1 k x → Argued c 2 k y → Argued c 3 k z → Performing c i j σ op x y z
  performing-three f s t = record { ready = w.ready; read = (read-three w.carrying f s t).read }

  pub performing-two : {x y : Argument} → Argued c 1 k x → Argued c 2 k y → Performing c i j σ op x y w.carrying.instruction.z
  performing-two f s = performing-three f s w.carrying.is.third

  pub performing-one : {x : Argument} → Argued c 1 k x → Performing c i j σ op x w.carrying.instruction.y w.carrying.instruction.z
  performing-one f = performing-two f w.carrying.is.second

  pub performing-none : Performing c i j σ op w.carrying.instruction.x w.carrying.instruction.y w.carrying.instruction.z
  performing-none = performing-one w.carrying.is.first
