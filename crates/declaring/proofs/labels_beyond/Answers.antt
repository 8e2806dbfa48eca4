-- `declaring::labels_beyond` meets its contract.
use borrow.Author.Rules.{rules}
use native.Mathlib.Omega.{arith}
use mathlib.Core.Path.{ap, ◌∙◌}
use mathlib.Core.List.{List, map}
use Prim.Native.Nat.{ℕ, ◌-◌}
use Rattle.names.specs.Below.DraftsMarks.{place_by}
use Rattle.statements.specs.StatementAt.{fault_of}
use Rattle.writing.proofs.Held.{label_count}
use Rattle.declaring.proofs.Judging.{labels-over, labels-within}
use Rattle.declaring.proofs.labels_beyond.Goals as goal

pub overflow_sub-room : goal.overflow_sub-room
overflow_sub-room c = omega (arith, c.labels-room.ensures.is, label_count c.args.table.cells.now c.requires.program c.requires.holds, c.requires.holds.tabular.labels_most)

pub returns-in_err-get : goal.returns-in_err-get
returns-in_err-get c = labels-within c.args.labels.now _ (λ p h. ap (λ (n : ℕ). 128 - n) (c.labels-room.ensures.is ∙ label_count c.args.table.cells.now p h)) (search rules) c.from_residual.ensures

pub returns : goal.returns
returns c = labels-over c.args.labels.now _ (λ p h. ap (λ (n : ℕ). 128 - n) (c.labels-room.ensures.is ∙ label_count c.args.table.cells.now p h)) (c.lowest_mark.ensures ∙ ap (λ (ms : List ℕ). fault_of (map place_by ms)) (search rules))
