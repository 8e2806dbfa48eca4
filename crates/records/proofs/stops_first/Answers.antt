-- `records::stops_first` meets its contract.
use mathlib.Core.Path.{ap, sym, ◌∙◌}
use Rattle.matching.specs.Tests.{until, stops_before}
use Rattle.records.proofs.Walking.{void-is, first-none, first-single, first_is}
use native.Mathlib.Omega.{arith}
use borrow.Author.Tests.{eqb-true, eqb-false}
use lib.ListN.{length}
use Rattle.records.proofs.stops_first.Goals as goal

pub returns-then-is_empty : goal.returns-then-is_empty
returns-then-is_empty c =
    let args = c.args in
    let pre = c.requires in
    rw (first-none args.x.now (eqb-true _ _ (sym c.is_empty.ensures ∙ c.if-is_empty.true))) (c.stops_void.ensures ∙ sym (void-is args.test args.k pre.fitting))

pub stops-requires : goal.stops-requires
stops-requires c =
    let pre = c.requires in
    record { one = first-single (pre) (omega (arith, eqb-false (length c.args.x.now) 0 (sym c.is_empty.ensures ∙ c.if-is_empty.false))); fitting = pre.fitting }

pub returns : goal.returns
returns c =
    let args = c.args in
    let pre = c.requires in
    c.stops.ensures ∙ ap (stops_before (until args.test) args.k) (first_is (pre) (omega (arith, eqb-false (length c.args.x.now) 0 (sym c.is_empty.ensures ∙ c.if-is_empty.false))))
