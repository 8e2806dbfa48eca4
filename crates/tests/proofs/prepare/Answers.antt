-- `tests::prepare` meets its contract.
use Rattle.table.specs.Below.Packed.{table_of}
use Rattle.tests.proofs.Values.{letter-readable, as_read, class-met, text-read}
use Rattle.tests.proofs.prepare.Goals as goal

pub prepare_letter-requires-clause-readable : goal.prepare_letter-requires-clause-readable
prepare_letter-requires-clause-readable c = letter-readable c.requires.readable c.in-Indexed.is

pub returns-in-Class : goal.returns-in-Class
returns-in-Class c =
    let t = table_of c.args.table.cells.now in
    let s = c.args.state.now.store in
    as_read t s c.in-Class.is (class-met s c.args.given.now t c.in-Class.mask)

pub returns-in-Text : goal.returns-in-Text
returns-in-Text c =
    let t = table_of c.args.table.cells.now in
    let s = c.args.state.now.store in
    as_read t s c.in-Text.is (text-read s _ _ c.put_text.ensures)

pub returns-in-Number : goal.returns-in-Number
returns-in-Number c =
    let s = c.args.state.now.store in
    as_read (table_of c.args.table.cells.now) s c.in-Number.is (c.prepare_number.ensures s c.args.given.now)
