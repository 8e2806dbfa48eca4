-- `macro_calls::count_fault` meets its contract.
use Rattle.macro_calls.proofs.Reading.{counts-few, counts-many, counts-right}
use Rattle.macro_calls.proofs.count_fault.Goals as goal

pub returns-then-given-taken : goal.returns-then-given-taken
returns-then-given-taken c =
    let argsᶜ = c.args in
    let lowᶜ = c.low-given in
    let highᶜ = c.high-taken in
    counts-few argsᶜ.coded.now.code.now argsᶜ.i argsᶜ.m lowᶜ.ensures.0 highᶜ.ensures.0 c.if-given-taken.true c.high.ensures.0

pub returns-then-taken-given : goal.returns-then-taken-given
returns-then-taken-given c =
    let argsᶜ = c.args in
    let lowᶜ = c.low-given in
    let highᶜ = c.high-taken in
    counts-many argsᶜ.coded.now.code.now argsᶜ.i argsᶜ.m lowᶜ.ensures.0 highᶜ.ensures.0 c.if-taken-given.true (rw c.argument_cell.ensures.0 at c.high-then-taken-given.ensures.0)

pub returns : goal.returns
returns c =
    let argsᶜ = c.args in
    let lowᶜ = c.low-given in
    let highᶜ = c.high-taken in
    counts-right argsᶜ.coded.now.code.now argsᶜ.i argsᶜ.m lowᶜ.ensures.0 highᶜ.ensures.0 c.if-given-taken.false c.if-taken-given.false
