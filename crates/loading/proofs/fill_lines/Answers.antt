-- `loading::fill_lines` meets its contract.
use native.Mathlib.Omega.{arith}
use mathlib.Core.Path.{◌∙◌}
use lib.Dec.{eqb}
use lib.ListN.{get_or}
use Rattle.lists.specs.BoolLaws.{sign-most, byte-is}
use Rattle.loading.proofs.Filling.{filling-none, line_low, filling-next, filling-all}
use Rattle.loading.proofs.fill_lines.Goals as goal

pub loop-i-init : goal.loop-i-init
loop-i-init c = let a = c.args in filling-none a.text.now a.lines.now

pub bounds-lines-i : goal.bounds-lines-i
bounds-lines-i c = omega (arith, c.requires.room, c.loop-i.invariant.sized, c.loop-i-test.true)

pub overflow_add-line : goal.overflow_add-line
overflow_add-line c =
    let b = eqb 10 (get_or c.args.text.now c.loop-i.i 0) in
    record { fits = omega (arith, line_low c.requires c.loop-i.invariant, c.from-line.ensures, byte-is b, sign-most b) }

pub loop-i-preserved : goal.loop-i-preserved
loop-i-preserved c = filling-next c.requires c.loop-i.invariant c.loop-i-test.true (c.from-line.ensures ∙ byte-is (eqb 10 (get_or c.args.text.now c.loop-i.i 0)))

pub returns : goal.returns
returns c = filling-all c.requires c.loop-i.invariant c.loop-i-test.false
