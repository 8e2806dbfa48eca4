-- `printing::pisz` meets its contract.
use Rattle.std.proofs.lemmas.Result.{err_from_is_err_and}
use Rattle.packed.specs.Packed.{table_of}
use Rattle.table.specs.Denote.{arg_of}
use Rattle.printing.proofs.Rows.{pisz-stop, pisz-tried}
use Rattle.printing.proofs.pisz.Goals as goal

pub returns-in_err-test : goal.returns-in_err-test
returns-in_err-test c =
    let e = err_from_is_err_and c.from_residual.result c.from_residual.ensures.1 in
    rw (e.1, e.2) (pisz-stop c.stands.ensures c.args.source.i (arg_of (table_of c.args.table.cells.now) c.args.arg) c.prepare.ensures c.args.source.removes c.args.j c.in_err-test.was)

pub returns : goal.returns
returns c = pisz-tried c.stands.ensures c.args.source.i (arg_of (table_of c.args.table.cells.now) c.args.arg) c.prepare.ensures c.args.source.removes c.args.j c.in_ok-test.was c.spell.ensures
