-- `macro_preparing::prepare` meets its contract.
use Rattle.std.proofs.Common.{◌≡◌, arith, refl, Err}
use Rattle.macro_preparing.proofs.Expanding.{in_order, refuses, prepares}
use Rattle.macro_preparing.proofs.prepare.Goals as goal

pub returns-in_err-count : goal.returns-in_err-count
returns-in_err-count c =
    let p = c.requires in
    let gone : c.from_residual.result ≡ Err c.in_err-count.field-0.0 = grind arith in
    rw gone (refuses p (omega (arith, p.room)) (omega (arith, p.lines_room)) (omega (arith, p.code_room)) c.in_err-count.ensures)

pub find_lines-requires : goal.find_lines-requires
find_lines-requires c = in_order c.in_ok-count.ensures c.requires.short

pub returns : goal.returns
returns c =
    let p = c.requires in
    let x = c.in_ok-count.ensures in
    prepares p (omega (arith, p.room)) (omega (arith, p.lines_room)) (omega (arith, p.code_room)) x (omega (arith, x.most, p.lines_room)) c.find_lines.ensures refl
