-- `copying::kopiuj` meets its contract.
use Rattle.packed.specs.Packed.{table_of}
use Rattle.std.proofs.lemmas.Result.{err_from_is_err_and}
use Rattle.table.specs.Denote.{arg_of}
use Rattle.copying.proofs.Rows.{kopiuj-stop, kopiuj-done}
use Rattle.copying.proofs.kopiuj.Goals as goal

pub returns-in_err-q : goal.returns-in_err-q
returns-in_err-q c =
    let a = c.args in
    let e = err_from_is_err_and c.from_residual.result c.from_residual.ensures.1 in
    rw (e.1, e.2) (kopiuj-stop c.stands.ensures a.source.i (arg_of (table_of a.table.cells.now) a.arg) c.prepare.ensures a.source.removes a.target.reverses a.target.j c.in_err-q.was)

pub returns : goal.returns
returns c =
    let a = c.args in
    kopiuj-done c.stands.ensures a.source.i (arg_of (table_of a.table.cells.now) a.arg) c.prepare.ensures a.source.removes a.target.reverses a.target.j c.in_ok-q.was c.copy_taken.ensures
