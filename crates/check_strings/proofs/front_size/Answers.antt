-- `check_strings::front_size` meets its contract. How large the component in front is.
use native.Mathlib.Omega.{arith}
use Rattle.layout.specs.Cells.{cell}
use Rattle.components.proofs.Fronts.{size-short, size-most}
use Rattle.check_strings.proofs.Sizes.{front-none, front-shown, front-spelled}
use Rattle.check_strings.proofs.front_size.Goals as goal

pub returns-then-b-n : goal.returns-then-b-n
returns-then-b-n c = front-none c.size_by-n.ensures c.if-b-n.true

pub bounds-b-1 : goal.bounds-b-1
bounds-b-1 c =
    let args = c.args in
    let size-by = c.size_by-n in
    omega (arith, size-by.ensures.is, size-short (cell args.b.now 0) c.if-b-eq0.true)

pub three_at-requires : goal.three_at-requires
three_at-requires c =
    let args = c.args in
    let size-by = c.size_by-n in
    omega (arith, size-by.ensures.is, size-short (cell args.b.now 0) c.if-b-eq0.true)

pub returns-then-b-eq0 : goal.returns-then-b-eq0
returns-then-b-eq0 c =
    let args = c.args in
    let size-by = c.size_by-n in
    let if1 = c.if-b-n in
    let if2 = c.if-b-eq0 in
    let three_at = c.three_at in
    front-shown args.b.now size-by.ensures if1.false if2.true three_at.ensures c.is_short.ensures c.then_some.ensures

pub slice_bounds-all_known-count : goal.slice_bounds-all_known-count
slice_bounds-all_known-count c =
    let args = c.args in
    let size-by = c.size_by-n in
    omega (arith, size-by.ensures.is, size-most (cell args.b.now 0))

pub slice_bounds-all_known-start : goal.slice_bounds-all_known-start
slice_bounds-all_known-start c =
    let args = c.args in
    let size-by = c.size_by-n in
    omega (arith, size-by.ensures.is, size-most (cell args.b.now 0))

pub slice_bounds-all_known-end : goal.slice_bounds-all_known-end
slice_bounds-all_known-end c = c.if-b-n.false

pub returns : goal.returns
returns c =
    let args = c.args in
    let size-by = c.size_by-n in
    let if1 = c.if-b-n in
    let if2 = c.if-b-eq0 in
    front-spelled args.b.now size-by.ensures if1.false if2.false c.all_known.ensures c.then_some-2.ensures
