-- `records::find` meets its contract.
use mathlib.Core.Path.{ap, sym, ◌∙◌}
use Prim.Native.Nat.{◌+◌}
use native.Mathlib.Omega.{arith}
use borrow.Author.Tests.{eq-eqb, ne_eqb}
use lib.ListN.{length}
use Rattle.records.proofs.Cuts.{seeking-none, seeking-next, seeking-here, seeking-end}
use Rattle.records.proofs.Steps.{left-all, left_place, left_within, left-end, left_next, ends_here, here}
use Rattle.records.proofs.find.Goals as goal

pub loop-r-init : goal.loop-r-init
loop-r-init c = (0, left-all c.requires, seeking-none c.args.address c.requires)

pub overflow_add-k : goal.overflow_add-k
overflow_add-k c = let (at, l, g) = c.loop-r.invariant in omega (arith, g.cut.small, g.cut.within)

pub overflow_sub-result : goal.overflow_sub-result
overflow_sub-result c = let (at, l, g) = c.loop-r.invariant in left_within (left_next l c.in-Some.ensures)

pub returns-then-address_of-address : goal.returns-then-address_of-address
returns-then-address_of-address c =
    let (at, l, g) = c.loop-r.invariant in
    let f = c.in-Some.ensures in
    rw (left_place (left_next l f)) (seeking-here g (ends_here l f) (eq-eqb _ _ (ap (λ r. r.addr) (sym (here l f)) ∙ sym c.address_of.ensures.is ∙ c.if-address_of-address.true)))

pub loop-r-preserved : goal.loop-r-preserved
loop-r-preserved c =
    let (at, l, g) = c.loop-r.invariant in
    let f = c.in-Some.ensures in
    (at + length c.in-Some.r.now, left_next l f, seeking-next g (ends_here l f) (ne_eqb _ _ (λ q. c.if-address_of-address.false (c.address_of.ensures.is ∙ ap (λ r. r.addr) (here l f) ∙ q))))

pub returns : goal.returns
returns c = let (at, l, g) = c.loop-r.invariant in seeking-end g (left-end l c.in_default.ensures)
