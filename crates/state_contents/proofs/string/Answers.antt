-- `state_contents::string` meets its contract.
use Rattle.state_contents.proofs.Finding.{standing-by, expr-stands, file-stands, stack-stands, output-stands}
use native.Mathlib.Omega.{arith}
use Rattle.state_contents.proofs.string.Goals as goal

pub returns-then-j-lt-FIRST_FILE : goal.returns-then-j-lt-FIRST_FILE
returns-then-j-lt-FIRST_FILE c =
    let a = c.args in
    let w = c.whole in
    expr-stands a.frames.text.now a.j (omega arith) c.if-j-lt-FIRST_FILE.true (standing-by _ c.of.ensures.kind c.of.ensures.index w.ensures)

pub returns-then-j-lt-STACK_STRING : goal.returns-then-j-lt-STACK_STRING
returns-then-j-lt-STACK_STRING c =
    let a = c.args in
    let w = c.half in
    file-stands a.frames.text.now a.j (omega arith) c.if-j-lt-FIRST_FILE.false c.if-j-lt-STACK_STRING.true w.ensures

pub returns-then-j-eq-STACK_STRING : goal.returns-then-j-eq-STACK_STRING
returns-then-j-eq-STACK_STRING c =
    let a = c.args in
    let w = c.whole-then-j-eq-STACK_STRING in
    stack-stands a.frames.text.now a.j (omega arith) c.if-j-eq-STACK_STRING.true w.ensures

pub returns : goal.returns
returns c =
    let a = c.args in
    let w = c.whole-2 in
    output-stands a.frames.text.now a.j (omega arith) (omega (arith, c.if-j-lt-STACK_STRING.false, c.if-j-eq-STACK_STRING.false)) c.requires (standing-by _ c.of-slot.ensures.kind c.of-slot.ensures.index w.ensures)
