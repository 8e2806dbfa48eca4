-- `matching::among` meets its contract.
use mathlib.Core.Path.{refl, sym, ◌∙◌}
use native.Mathlib.Omega.{arith}
use lib.Pointwise.{bytes_decides}
use Rattle.components.proofs.Walks.{none_left, cells-long, front_some}
use Rattle.matching.proofs.Equals.{any_same, any-other}
use Rattle.matching.proofs.among.Goals as goal

pub returns-then-eq : goal.returns-then-eq
returns-then-eq c =
    let f = c.in-Some.ensures in
    sym (c.loop-y.invariant.1 ∙ any_same c.args.x.now c.requires.one f ((bytes_decides c.args.x.now _).0 (sym c.eq.ensures ∙ c.if-eq.true)))

pub loop-y-smaller : goal.loop-y-smaller
loop-y-smaller c = omega (arith, cells-long c.in-Some.ensures, front_some c.in-Some.ensures)

pub loop-y-preserved : goal.loop-y-preserved
loop-y-preserved c =
    let f = c.in-Some.ensures in
    (f.rest, c.loop-y.invariant.1 ∙ any-other c.args.x.now c.requires.one f c.eq.result c.if-eq.false (λ e. c.eq.ensures ∙ (bytes_decides c.args.x.now _).1 e))

pub returns : goal.returns
returns c = sym (c.loop-y.invariant.1 ∙ rw (none_left c.in_default.ensures) refl)
