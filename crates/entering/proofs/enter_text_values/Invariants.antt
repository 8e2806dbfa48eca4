-- `entering::enter_text_values` meets its contract.
use mathlib.Core.List.{List}
use Rattle.arguments.specs.Valued.{Valued}
use Rattle.entering.specs.Entering.{set_texts, long_text}
use Rattle.entering.proofs.Rows.{Going}
use Rattle.lists.specs.Lists.{bytes_equal}
use Rattle.syntax.specs.ArgumentForms.{Argument}
use Rattle.syntax.specs.Items.{Item}
use Rattle.entering.proofs.enter_text_values.Given as goal

abbrev pub invariant-loop-value : goal.invariant-loop-value
invariant-loop-value l =
    (js : List Item) (args : List Argument) → Valued l.text js args l.fn.v
    → Going bytes_equal (λ j. j.chars) long_text (λ p. p.texts) set_texts l.text l.fn.v js args l.initial.table l.value-index l.table
