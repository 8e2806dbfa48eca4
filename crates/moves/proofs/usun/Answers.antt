-- `moves::usun` meets its contract.
use Rattle.std.proofs.lemmas.Result.{err_from_is_err_and}
use Rattle.table.specs.Below.Packed.{table_of}
use Rattle.table.specs.Denote.{arg_of}
use Rattle.moves.proofs.Rows.{usun-stop, usun-done}
use Rattle.moves.proofs.usun.Goals as goal

pub returns-in_err-test : goal.returns-in_err-test
returns-in_err-test c =
    let e = err_from_is_err_and c.from_residual.result c.from_residual.ensures.1 in
    rw (e.1, e.2) (usun-stop c.stands.ensures c.args.i (arg_of (table_of c.args.table.cells.now) c.args.arg) c.prepare.ensures c.in_err-test.was)

pub returns : goal.returns
returns c = usun-done c.stands.ensures c.args.i (arg_of (table_of c.args.table.cells.now) c.args.arg) c.prepare.ensures c.in_ok-test.was c.cut_off.ensures
