-- `operands::first_offered` meets its contract.
use mathlib.Core.Path.{sym, ◌∙◌}
use lib.ListN.{length}
use borrow.Author.Tests.{true-eqb, false-eqb}
use Rattle.components.proofs.FirstLaws.{leading}
use Rattle.operands.proofs.Reading.{none_told, kind-told, value-told, number-kind, other-kind}
use Rattle.operands.proofs.first_offered.Goals as goal

pub returns-then-is_empty : goal.returns-then-is_empty
returns-then-is_empty c = record { reads = none_told c.expr_bytes-x.ensures (true-eqb (length c.expr_bytes-x.result.now) 0 c.if-is_empty.ensures); stands = c.expr_bytes-x.ensures.stands }

pub kind_of-kind-requires : goal.kind_of-kind-requires
kind_of-kind-requires c = leading c.expr_bytes-x.ensures.whole (false-eqb (length c.expr_bytes-x.result.now) 0 c.if-is_empty.ensures)

pub number_of-number-requires : goal.number_of-number-requires
number_of-number-requires c =
    let z = false-eqb (length c.expr_bytes-x.result.now) 0 c.if-is_empty.ensures in
    record { fits = (leading c.expr_bytes-x.ensures.whole z).fits; kind_is = sym c.kind_of-kind.ensures ∙ number-kind _ c.eq.ensures c.if-eq.true }

pub returns-then-eq-clause-reads : goal.returns-then-eq-clause-reads
returns-then-eq-clause-reads c =
    let z = false-eqb (length c.expr_bytes-x.result.now) 0 c.if-is_empty.ensures in
    value-told c.expr_bytes-x.ensures z c.kind_of-kind.ensures (number-kind _ c.eq.ensures c.if-eq.true) c.number_of-number.ensures

pub returns-else-eq-clause-reads : goal.returns-else-eq-clause-reads
returns-else-eq-clause-reads c =
    let z = false-eqb (length c.expr_bytes-x.result.now) 0 c.if-is_empty.ensures in
    kind-told c.expr_bytes-x.ensures z c.kind_of-kind.ensures (other-kind _ c.eq.ensures c.if-eq.false)
