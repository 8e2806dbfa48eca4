-- `switches::szukaj` meets its contract.
use Rattle.std.proofs.lemmas.Result.{err_from_is_err_and}
use Rattle.instructions.proofs.Asking.{some}
use Rattle.switches.proofs.Fronts.{some-front}
use Rattle.switches.proofs.Rows.{szukaj-stop, szukaj-met, szukaj-none}
use Rattle.switches.proofs.szukaj.Goals as goal

pub returns-in_err-met : goal.returns-in_err-met
returns-in_err-met c =
    let e = err_from_is_err_and c.from_residual.result c.from_residual.ensures.1 in
    let s = c.args.source in
    λ ins. rw (e.1, e.2) (szukaj-stop c.stands.ensures c.args.table.cells.now s.i c.args.switch s.removes (some c.in_err-met.field-0.0) c.in_err-met.ensures.told ins)

pub use_front-requires : goal.use_front-requires
use_front-requires c = record { index = c.requires.index; some = some-front c.args.state.now.store c.args.source.i 0 c.in_ok-met.ensures.told }

pub returns-in-Some : goal.returns-in-Some
returns-in-Some c =
    let s = c.args.source in
    szukaj-met c.stands.ensures c.args.table.cells.now s.i c.args.switch s.removes c.in_ok-met.ensures.told c.in_ok-met.ensures.is c.in-Some.is c.use_front.ensures

pub returns-in-None : goal.returns-in-None
returns-in-None c =
    let s = c.args.source in
    szukaj-none c.stands.ensures c.args.table.cells.now s.i c.args.switch s.removes c.in_ok-met.ensures.told c.in_ok-met.ensures.is c.in-None.is c.set_plus.ensures
