-- `arithmetic::dziel` meets its contract.
use Rattle.std.proofs.lemmas.Result.{err_from_is_err_and}
use Rattle.arithmetic.proofs.Rows.{divisible, numbered, dziel-stops, dziel-zeros, dziel-dones}
use Rattle.arithmetic.proofs.dziel.Goals as goal

pub returns-in_err-p : goal.returns-in_err-p
returns-in_err-p c =
    let e = err_from_is_err_and c.from_residual.result c.from_residual.ensures.1 in
    let o = c.two_operands.ensures in
    rw (e.1, e.2) (dziel-stops o.stands c.args.i c.args.arg o.reads c.in_err-p.was)

pub returns-then-p-eq-ZERO : goal.returns-then-p-eq-ZERO
returns-then-p-eq-ZERO c =
    let o = c.two_operands.ensures in
    dziel-zeros o.stands c.args.i c.args.arg o.reads c.in_ok-p.was c.if-p-eq-ZERO.true

pub remainder-left-requires : goal.remainder-left-requires
remainder-left-requires c = let o = c.two_operands.ensures in divisible o.stands c.args.i c.args.arg o.reads c.in_ok-p.was c.if-p-eq-ZERO.false

pub quotient-requires : goal.quotient-requires
quotient-requires c = let o = c.two_operands.ensures in divisible o.stands c.args.i c.args.arg o.reads c.in_ok-p.was c.if-p-eq-ZERO.false

pub put_two-requires : goal.put_two-requires
put_two-requires c =
    let o = c.two_operands.ensures in
    record { numbered = numbered o.stands c.args.i c.args.arg o.reads c.in_ok-p.was tt c.requires.source; left_most = c.remainder-left.ensures.most; right_most = c.quotient.ensures.most }

pub returns : goal.returns
returns c =
    let o = c.two_operands.ensures in
    dziel-dones o.stands c.args.i c.args.arg o.reads c.in_ok-p.was c.if-p-eq-ZERO.false c.remainder-left.ensures c.quotient.ensures c.put_two.ensures
