-- `equality::settle` meets its contract.
use Rattle.layout.proofs.ComponentLaws.{whole-components}
use Rattle.components.proofs.FirstLaws.{leading}
use Rattle.equality.proofs.Meeting.{some-there, first-long, first-whole, first-parts, settled-done}
use Rattle.equality.proofs.settle.Goals as goal

pub slice_bounds-count-end : goal.slice_bounds-count-end
slice_bounds-count-end c =
    let x = c.expr_bytes-x.ensures in
    first-long x (some-there x c.requires.some) c.of_first-first.ensures.bytes_are

pub count-t-requires : goal.count-t-requires
count-t-requires c =
    let x = c.expr_bytes-x.ensures in
    record {
      whole = whole-components (first-whole x (some-there x c.requires.some) c.of_first-first.ensures.bytes_are);
      fitting = c.test_of.ensures.fitting c.requires.whole;
    }

pub of_first-first-requires : goal.of_first-first-requires
of_first-first-requires c =
    let x = c.expr_bytes-x.ensures in
    leading x.whole (some-there x c.requires.some)

pub finish-requires : goal.finish-requires
finish-requires c =
    let x = c.expr_bytes-x.ensures in
    record { index = c.requires.index; single = c.of_first-first.ensures.parts_are; first = first-parts x (some-there x c.requires.some) c.of_first-first.ensures }

pub returns : goal.returns
returns c =
    let x = c.expr_bytes-x.ensures in
    settled-done x (some-there x c.requires.some) c.of_first-first.ensures.bytes_are c.args.arg c.args.given.now (rw c.test_of.ensures.parts at c.count-t.ensures) c.args.source.removes c.finish.ensures
