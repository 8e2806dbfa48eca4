-- `scanner::scan_text` meets its contract.
use Rattle.std.proofs.Common.{refl, sym, ◌∙◌}
use Rattle.lists.specs.BoolLaws.{byte-is}
use Rattle.scanner.proofs.Loops.{scan-on, scan-ends, scan-out}
use Rattle.scanner.proofs.scan_text.Goals as goal

pub returns-then-ends_text : goal.returns-then-ends_text
returns-then-ends_text c = rw c.then_some.ensures (scan-ends c.loop-i.invariant _ c.loop-i-test.true (sym c.ends_text.ensures ∙ c.if-ends_text.true) refl)

pub loop-i-preserved : goal.loop-i-preserved
loop-i-preserved c =
    let on = scan-on c.loop-i.invariant c.loop-i-test.true (sym c.ends_text.ensures ∙ c.if-ends_text.false) in
    rw (c.from-count.ensures, byte-is, c.takes_next-star.ensures, c.allows-good.ensures) on

pub returns : goal.returns
returns c = scan-out c.loop-i.invariant c.loop-i-test.false
