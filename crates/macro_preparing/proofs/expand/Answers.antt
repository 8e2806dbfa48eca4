-- `macro_preparing::expand` meets its contract.
use Rattle.std.proofs.Common.{◌≡◌, arith, Err, sym, ap, ◌∙◌}
use Rattle.statements.specs.Faults.{verdict_of}
use Rattle.macro_preparing.proofs.Expanding.{whole_asked, expands, expands-not}
use Rattle.macro_preparing.proofs.expand.Goals as goal

pub returns-in_err-answered : goal.returns-in_err-answered
returns-in_err-answered c =
    let gone : c.from_residual.result ≡ Err c.in_err-answered.field-0.0 = grind arith in
    rw gone (whole_asked c.ask_whole.result c.ask_whole.ensures c.in_err-answered.ensures)

pub returns-in_err-answered-2 : goal.returns-in_err-answered-2
returns-in_err-answered-2 c =
    let whole = sym c.ask_whole.ensures ∙ ap verdict_of c.in_ok-answered.ensures in
    let gone : c.from_residual-in_err-answered-2.result ≡ Err c.in_err-answered-2.field-0.0 = grind arith in
    rw gone (expands-not c.read_rows-r.ensures c.write_section-w.ensures (omega (arith, c.requires.room)) c.requires.macros c.requires.short whole c.ask_macros.result c.ask_macros.ensures c.in_err-answered-2.ensures)

pub returns : goal.returns
returns c =
    let whole = sym c.ask_whole.ensures ∙ ap verdict_of c.in_ok-answered.ensures in
    rw c.unwrap_or.ensures
    (expands c.read_rows-r.ensures c.write_section-w.ensures (omega (arith, c.requires.room)) c.requires.macros c.requires.short whole c.ask_macros.result c.ask_macros.ensures c.in_ok-answered-2.ensures)
