-- `macro_reading::read_definition` meets its contract.
use native.Mathlib.Omega.{arith}
use borrow.Author.Rules.{rules}
use Rattle.std.proofs.Common.{None, ◌≡◌}
use Rattle.macro_reading.proofs.Defining.{not-defined, bodied, definition-done}
use Rattle.macro_reading.proofs.read_definition.Goals as goal

pub returns-in_err-b : goal.returns-in_err-b
returns-in_err-b c = let e : c.from_residual.result ≡ None = search rules in rw e (not-defined c.requires c.read_header-h.ensures (c.next_open.ensures.none c.in_err-b.was))

pub overflow_add-b : goal.overflow_add-b
overflow_add-b c = let h = (c.next_open.ensures.some c.in_ok-b.b c.in_ok-b.was).first.held in omega (arith, h.own, h.ends, h.small)

pub read_body-r-requires : goal.read_body-r-requires
read_body-r-requires c =
    rw c.saturating_sub.ensures (bodied c.requires c.read_header-h.ensures (c.next_open.ensures.some c.in_ok-b.b c.in_ok-b.was))

pub returns : goal.returns
returns c =
    rw (c.definition_fault.ensures, c.then_some.ensures)
    (definition-done c.requires c.read_header-h.ensures (c.next_open.ensures.some c.in_ok-b.b c.in_ok-b.was)
    (rw c.saturating_sub.ensures at c.read_body-r.ensures))
