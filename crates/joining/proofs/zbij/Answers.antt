-- `joining::zbij` meets its contract.
use Rattle.std.proofs.lemmas.Result.{err_from_is_err_and}
use Rattle.packed.specs.Packed.{table_of}
use Rattle.table.specs.Denote.{arg_of}
use Rattle.joining.proofs.Rows.{zbij-stop, zbij-tried}
use Rattle.joining.proofs.zbij.Goals as goal

pub returns-in_err-test : goal.returns-in_err-test
returns-in_err-test c =
    let e = err_from_is_err_and c.from_residual.result c.from_residual.ensures.1 in
    rw (e.1, e.2) (zbij-stop c.stands.ensures c.args.source.removes c.args.source.i (arg_of (table_of c.args.table.cells.now) c.args.arg) c.prepare.ensures c.in_err-test.was)

pub returns : goal.returns
returns c = zbij-tried c.stands.ensures c.args.source.removes c.args.source.i (arg_of (table_of c.args.table.cells.now) c.args.arg) c.prepare.ensures c.in_ok-test.was c.join_up.ensures
