-- `tests::prepare_first` meets its contract.
use Rattle.std.proofs.lemmas.Result.{err_from_is_err_and}
use Rattle.tests.proofs.Values.{first-refused, first-read}
use Rattle.tests.proofs.prepare_first.Goals as goal

pub returns-in_err-len : goal.returns-in_err-len
returns-in_err-len c =
    let e = err_from_is_err_and c.from_residual.result c.from_residual.ensures.1 in
    rw (e.1, e.2) (first-refused c.args.state.now.store _ c.args.i c.put_first.ensures c.in_err-len.was)

pub returns : goal.returns
returns c = first-read c.args.state.now.store _ c.args.i c.put_first.ensures c.in_ok-len.was
