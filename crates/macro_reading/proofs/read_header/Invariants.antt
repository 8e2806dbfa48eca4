-- `macro_reading::read_header` meets its contract.
use Prim.Native.Nat.{◌-◌}
use lib.ListN.{length}
use Rattle.macros.specs.Elements.{is_bracket}
use Rattle.macro_reading.specs.Headers.{Heading}
use Rattle.macro_reading.proofs.read_header.Given as goal

abbrev pub ghost-next_before : goal.ghost-next_before
ghost-next_before a = is_bracket

abbrev pub invariant-loop-t : goal.invariant-loop-t
invariant-loop-t l = Heading l.source.text.now l.initial.code l.code l.n l.q l.passed.next l.words l.first l.some l.passed.fault

abbrev pub decreases-loop-t : goal.decreases-loop-t
decreases-loop-t l = length l.source.text.now - l.passed.next
