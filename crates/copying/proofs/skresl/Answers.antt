-- `copying::skresl` meets its contract.
use Rattle.packed.specs.Packed.{table_of}
use Rattle.std.proofs.lemmas.Result.{err_from_is_err_and}
use Rattle.table.specs.Denote.{arg_of}
use Rattle.copying.proofs.Rows.{skresl-stop, skresl-done}
use Rattle.copying.proofs.skresl.Goals as goal

pub returns-in_err-q : goal.returns-in_err-q
returns-in_err-q c =
    let e = err_from_is_err_and c.from_residual.result c.from_residual.ensures.1 in
    rw (e.1, e.2) (skresl-stop c.stands.ensures c.args.i (arg_of (table_of c.args.table.cells.now) c.args.arg) c.prepare.ensures c.in_err-q.was)

pub returns : goal.returns
returns c = skresl-done c.stands.ensures c.args.i (arg_of (table_of c.args.table.cells.now) c.args.arg) c.prepare.ensures c.in_ok-q.was (rw c.with.ensures.records at c.drop_taken.ensures)
