-- `switches::by_word` meets its contract.
use Rattle.std.proofs.lemmas.Result.{err_from_is_err_and}
use Rattle.instructions.proofs.Asking.{some}
use Rattle.switches.proofs.Rows.{word-stop, met-go, word-goes, word-on}
use Rattle.switches.proofs.by_word.Goals as goal

pub returns-in_err-met : goal.returns-in_err-met
returns-in_err-met c =
    let e = err_from_is_err_and c.from_residual.result c.from_residual.ensures.1 in
    let s = c.args.source in
    λ ins. rw (e.1, e.2) (word-stop c.stands.ensures c.args.table.cells.now s.i c.args.switch s.removes (some c.in_err-met.field-0.0) c.args.way c.in_err-met.ensures.told ins)

pub go_by-requires : goal.go_by-requires
go_by-requires c = met-go c.requires c.in_ok-met.ensures.told c.in_ok-met.ensures.is c.in-Some.is

pub returns-in-Some : goal.returns-in-Some
returns-in-Some c =
    let s = c.args.source in
    word-goes c.stands.ensures c.args.table.cells.now s.i c.args.switch s.removes c.in_ok-met.ensures.told c.in_ok-met.ensures.is c.args.way c.in-Some.is c.go_by.ensures

pub returns-in-None : goal.returns-in-None
returns-in-None c =
    let s = c.args.source in
    word-on c.stands.ensures c.args.table.cells.now s.i c.args.switch s.removes c.in_ok-met.ensures.told c.in_ok-met.ensures.is c.args.way c.in-None.is c.go_past.ensures
