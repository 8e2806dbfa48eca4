-- `entering::enter_number_values` meets its contract.
use mathlib.Core.List.{List}
use Prim.Native.Nat.{ℕ}
use Rattle.arguments.specs.Valued.{Valued}
use Rattle.entering.specs.Entering.{set_numbers, large_number}
use Rattle.entering.proofs.Rows.{Going}
use Rattle.language.specs.Values.{same_number}
use Rattle.syntax.specs.ArgumentForms.{Argument}
use Rattle.syntax.specs.Items.{Item}
use Rattle.syntax.specs.Tables.{number_in}
use Rattle.entering.proofs.enter_number_values.Given as goal

abbrev pub invariant-loop-value : goal.invariant-loop-value
invariant-loop-value l =
    (s : List ℕ) (js : List Item) (args : List Argument) → Valued s js args l.fn.v
    → Going same_number number_in large_number (λ p. p.numbers) set_numbers s l.fn.v js args l.initial.table l.value-index l.table
