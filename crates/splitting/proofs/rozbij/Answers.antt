-- `splitting::rozbij` meets its contract.
use Rattle.std.proofs.lemmas.Result.{err_from_is_err_and}
use Rattle.packed.specs.Packed.{table_of}
use Rattle.table.specs.Denote.{arg_of}
use Rattle.splitting.proofs.Rows.{rozbij-stop, rozbij-tried}
use Rattle.splitting.proofs.rozbij.Goals as goal

pub returns-in_err-test : goal.returns-in_err-test
returns-in_err-test c =
    let e = err_from_is_err_and c.from_residual.result c.from_residual.ensures.1 in
    let w = c.word_of.ensures in
    rw (e.1, e.2)
    (rozbij-stop w.stands c.args.source.removes c.args.source.i (arg_of (table_of c.args.table.cells.now) c.args.arg) c.prepare-prepared.ensures w.asked c.in_err-test.was)

pub returns : goal.returns
returns c =
    let w = c.word_of.ensures in
    rozbij-tried w.stands c.args.source.removes c.args.source.i (arg_of (table_of c.args.table.cells.now) c.args.arg) c.prepare-prepared.ensures w.asked c.in_ok-test.was c.split_up.ensures
