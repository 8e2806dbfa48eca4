-- `linking::resolve_code` meets its contract.
use native.Mathlib.Omega.{arith}
use mathlib.Core.Path.{◌∙◌}
use lib.ListN.{length}
use Rattle.writing.proofs.Held.{code_count}
use Rattle.linking.specs.Resolving.{instr_resolved}
use Rattle.linking.proofs.Steps.{asking-after, code-long, all_first, all-next, all_done}
use Rattle.linking.proofs.Faults.{code-asked}
use Rattle.linking.proofs.resolve_code.Goals as goal

pub loop-k-init : goal.loop-k-init
loop-k-init c = let a = c.args in all_first (instr_resolved a.text.now a.sw.now) a.table.now

pub resolve_instruction-requires : goal.resolve_instruction-requires
resolve_instruction-requires c = asking-after (code-long c.args.text.now c.args.sw.now c.loop-k.k) (code-asked c.instructions-n.result c.loop-k.k c.requires c.instructions-n.ensures.is c.loop-k-test.true) c.loop-k.invariant

pub loop-k-preserved : goal.loop-k-preserved
loop-k-preserved c = all-next (instr_resolved c.args.text.now c.args.sw.now) c.loop-k.k c.loop-k.invariant c.resolve_instruction.ensures

pub returns : goal.returns
returns c = all_done (instr_resolved c.args.text.now c.args.sw.now) (λ p. length p.code) (λ p h. c.instructions-n.ensures.is ∙ code_count _ p h) c.loop-k-test.false (omega arith) c.loop-k.invariant
