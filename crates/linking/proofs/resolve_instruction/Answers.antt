-- `linking::resolve_instruction` meets its contract.
use mathlib.Core.Path.{◌≡◌}
use native.Mathlib.Omega.{arith}
use Rattle.linking.specs.Resolving.{argument_resolved}
use Rattle.linking.proofs.Steps.{arguments-long, asking-after, all_first, all-next, all-three}
use Rattle.linking.proofs.resolve_instruction.Goals as goal

pub loop-j-init : goal.loop-j-init
loop-j-init c = all_first (argument_resolved c.args.text.now c.args.sw.now c.args.k) c.args.table.now

pub resolve_argument-requires : goal.resolve_argument-requires
resolve_argument-requires c = record { at = asking-after (arguments-long c.args.text.now c.args.sw.now c.args.k c.loop-j.j) c.requires c.loop-j.invariant; place = c.loop-j-test.true }

pub loop-j-preserved : goal.loop-j-preserved
loop-j-preserved c = all-next (argument_resolved c.args.text.now c.args.sw.now c.args.k) c.loop-j.j c.loop-j.invariant c.resolve_argument.ensures

pub returns : goal.returns
returns c = let e : c.loop-j.j ≡ 3 = omega (arith, c.loop-j-test.false, c.loop-j.auto) in all-three c.args.text.now c.args.sw.now c.args.k (rw e at c.loop-j.invariant)
