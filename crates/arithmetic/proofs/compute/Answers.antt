-- `arithmetic::compute` meets its contract.
use Rattle.std.proofs.lemmas.Result.{err_from_is_err_and}
use Rattle.arithmetic.proofs.Rows.{both_coded, numbered, codes_most, one-stop, one-over, one-done}
use Rattle.arithmetic.proofs.compute.Goals as goal

pub returns-in_err-p : goal.returns-in_err-p
returns-in_err-p c =
    let e = err_from_is_err_and c.from_residual.result c.from_residual.ensures.1 in
    let o = c.two_operands.ensures in
    rw (e.1, e.2) (one-stop o.stands c.args.i c.args.arg c.args.what o.reads c.in_err-p.was)

pub result_of-requires : goal.result_of-requires
result_of-requires c = let o = c.two_operands.ensures in both_coded o.stands c.args.i c.args.arg o.reads c.in_ok-p.was

pub returns-in_err-z : goal.returns-in_err-z
returns-in_err-z c =
    let e = err_from_is_err_and c.from_residual-in_err-z.result c.from_residual-in_err-z.ensures.1 in
    let o = c.two_operands.ensures in
    rw (e.1, e.2) (one-over o.stands c.args.i c.args.arg c.args.what o.reads c.in_ok-p.was c.result_of.ensures c.in_err-z.was)

pub put_one-requires : goal.put_one-requires
put_one-requires c =
    let o = c.two_operands.ensures in
    record { numbered = numbered o.stands c.args.i c.args.arg o.reads c.in_ok-p.was tt c.requires.source; most = codes_most c.result_of.ensures c.in_ok-z.was }

pub returns : goal.returns
returns c =
    let o = c.two_operands.ensures in
    one-done o.stands c.args.i c.args.arg c.args.what o.reads c.in_ok-p.was c.result_of.ensures c.in_ok-z.was c.put_one.ensures
