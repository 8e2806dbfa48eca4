-- `packed::spells` meets its contract.
use mathlib.Core.Path.{◌∙◌}
use native.Mathlib.Omega.{arith}
use Rattle.packed.proofs.Bytes.{spells-other, spells-same}
use Rattle.packed.proofs.spells.Goals as goal

pub returns-then-min-word : goal.returns-then-min-word
returns-then-min-word c = spells-other c.args.row.now (omega arith) c.args.n c.min.result c.args.word.now c.min.ensures c.if-min-word.true

pub returns : goal.returns
returns c = c.chars_are.ensures ∙ spells-same c.args.row.now (omega arith) c.args.n c.min.result c.args.word.now c.min.ensures c.if-min-word.false
