-- Decoding what was encoded gives it back.
use mathlib.Core.Path.{◌≡◌, ap, ◌∙◌}
use mathlib.Core.List.{List}
use Prim.Native.Nat.{ℕ, ◌%◌, ◌/◌, ◌≤◌, ◌<◌}
use lib.Dec.{T}
use lib.ListN.{length, get_or}
use lib.IntN.{pos, nat_abs}
use Rattle.entering.proofs.Below.Found.{text-read, number_read}
use Rattle.language.specs.Limits as limit
use Rattle.language.specs.Program.{Arg, Program}
use Rattle.layout.proofs.ArgumentLaws.{arg-back}
use Rattle.layout.proofs.CellLaws.{each_in, uncode-code}
use Rattle.layout.specs.Cells.{cell, uncode}
use Rattle.layout.specs.Table.{number_in, arg_by}
use Rattle.machine.specs.WellFormed.{ranged}
use Rattle.packed.specs.Packed.{table_of}
use Rattle.table.specs.Denote.{arg_of}
use Rattle.table.specs.Reads.{IsArgument}
use Rattle.table.specs.declared.Argument.{Argument}
use Rattle.entering.specs.Below.ReadArgument.{ReadArgument}
use Rattle.entering.specs.Below.Writing.{HoldsProgram}
use Rattle.argument_cells.specs.ArgumentCells.{Drafts, CellOf}

module _ {c : List ℕ} {p : Program} (h : HoldsProgram c p) where
  numbers-read : (k : ℕ) → k < length p.numbers → number_in (table_of c) k ≡ get_or p.numbers k (pos 0)
  numbers-read k b =
      ap uncode (number_read c p h k b)
      ∙ uncode-code (get_or p.numbers k (pos 0)) (each_in (λ z. nat_abs z ≤ limit.size) p.numbers h.tabular.numbers_small k (pos 0) b)

  -- where cell k has what is told of the value x of an argument, the value that is read there stands for this argument
  pub decoded : {s : List ℕ} {x : ReadArgument} {n : ℕ} → CellOf s x c n → (a : Arg) → Drafts s x a → T (ranged p a) → {k : ℕ} → cell (table_of c) k ≡ n → {r : Argument} → IsArgument (table_of c) k r
      → arg_of (table_of c) r ≡ a
  decoded e a q t {k} z g =
      g.is ∙ ap (λ (m : ℕ). arg_by (table_of c) (m % 8) (m / 8)) (z ∙ (e a q).is p h) ∙ arg-back p (table_of c) (text-read c p h) numbers-read a t
