-- `moves::przeslij` meets its contract.
use Rattle.std.proofs.lemmas.Result.{err_from_is_err_and}
use Rattle.table.specs.Below.Packed.{table_of}
use Rattle.table.specs.Denote.{arg_of}
use Rattle.moves.proofs.Rows.{przeslij-stop, przeslij-tried}
use Rattle.moves.proofs.przeslij.Goals as goal

pub returns-in_err-test : goal.returns-in_err-test
returns-in_err-test c =
    let e = err_from_is_err_and c.from_residual.result c.from_residual.ensures.1 in
    let from = c.args.source in
    let to = c.args.target in
    rw (e.1, e.2) (przeslij-stop c.stands.ensures from.i (arg_of (table_of c.args.table.cells.now) c.args.arg) c.prepare.ensures from.removes to.reverses to.at_end to.j c.in_err-test.was)

pub returns : goal.returns
returns c =
    let from = c.args.source in
    let to = c.args.target in
    przeslij-tried c.stands.ensures from.i (arg_of (table_of c.args.table.cells.now) c.args.arg) c.prepare.ensures from.removes to.reverses to.at_end to.j c.in_ok-test.was c.send.ensures
