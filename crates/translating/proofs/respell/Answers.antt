-- `translating::respell` meets its contract.
use native.Mathlib.Omega.{arith}
use mathlib.Core.Path.{refl, sym, ◌∙◌}
use Rattle.translating.proofs.Passes.{reached-none, reached-last}
use Rattle.translating.proofs.respell.Goals as goal

pub loop-t-init : goal.loop-t-init
loop-t-init c = (reached-none c.args.text.now c.args.made.now, refl, c.next_item-t.ensures)

pub returns : goal.returns
returns c = reached-last c.loop-t.invariant.0 c.loop-t.invariant.2 (sym c.is_some.ensures ∙ c.loop-t-test.false) c.append.ensures (omega arith)
