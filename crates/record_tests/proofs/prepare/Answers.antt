-- `record_tests::prepare` meets its contract.
use Rattle.std.proofs.lemmas.Result.{err_from_is_err_and}
use Rattle.packed.specs.Packed.{table_of}
use Rattle.record_tests.proofs.Wholes.{whole-from, whole-named, whole-told, parts-readable, parts-refused, parts-told}
use Rattle.record_tests.proofs.prepare.Goals as goal

pub overflow_sub-n : goal.overflow_sub-n
overflow_sub-n c = whole-from c.requires.readable c.in-Some.ensures

pub put_all-requires-clause-index : goal.put_all-requires-clause-index
put_all-requires-clause-index c = whole-named c.requires.readable c.in-Some.ensures

pub returns-in-Some : goal.returns-in-Some
returns-in-Some c = whole-told c.requires.readable c.in-Some.ensures (table_of c.args.table.cells.now) c.args.state.now.store c.put_all.ensures

pub prepare-requires-clause-readable : goal.prepare-requires-clause-readable
prepare-requires-clause-readable c = parts-readable c.requires.readable c.in_default.ensures

pub returns-in_err-p : goal.returns-in_err-p
returns-in_err-p c =
    let e = err_from_is_err_and c.from_residual.result c.from_residual.ensures.1 in
    rw (e.1, e.2) (parts-refused c.requires.readable c.in_default.ensures (table_of c.args.table.cells.now) c.args.state.now.store c.prepare.ensures c.in_err-p.was)

pub returns : goal.returns
returns c = parts-told c.requires.readable c.in_default.ensures (table_of c.args.table.cells.now) c.args.state.now.store c.prepare.ensures c.in_ok-p.was
