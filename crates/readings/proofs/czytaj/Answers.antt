-- `readings::czytaj` meets its contract.
use Rattle.std.proofs.lemmas.Result.{err_from_is_err_and}
use Rattle.packed.specs.Packed.{table_of}
use Rattle.table.specs.Denote.{arg_of}
use Rattle.readings.proofs.Rows.{czytaj-stop, czytaj-tried}
use Rattle.readings.proofs.czytaj.Goals as goal

pub returns-in_err-test : goal.returns-in_err-test
returns-in_err-test c =
    let e = err_from_is_err_and c.from_residual.result c.from_residual.ensures.1 in
    let argsᶜ = c.args in
    rw (e.1, e.2)
    (czytaj-stop c.stands.ensures argsᶜ.task.first.now argsᶜ.task.second.now argsᶜ.i c.requires.unread.index (arg_of (table_of argsᶜ.task.table.cells.now) argsᶜ.arg) c.prepare.ensures argsᶜ.target.at_end argsᶜ.target.j c.in_err-test.was)

pub returns : goal.returns
returns c =
    let argsᶜ = c.args in
    czytaj-tried c.stands.ensures argsᶜ.task.first.now argsᶜ.task.second.now argsᶜ.i c.requires.unread.index (arg_of (table_of argsᶜ.task.table.cells.now) argsᶜ.arg) c.prepare.ensures argsᶜ.target.at_end argsᶜ.target.j c.in_ok-test.was c.input.ensures c.read_word.ensures
