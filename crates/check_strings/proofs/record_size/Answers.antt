-- `check_strings::record_size` meets its contract.
use native.Mathlib.Omega.{arith}
use mathlib.Core.Path.{sym, ◌∙◌}
use Rattle.check_strings.proofs.Sizes.{framed-fits, record-none, record-shown}
use Rattle.check_strings.proofs.record_size.Goals as goal

pub returns-then-not-is_framed : goal.returns-then-not-is_framed
returns-then-not-is_framed c = record-none c.is_framed.ensures (c.if-not-is_framed.true)

pub two_at-n-requires : goal.two_at-n-requires
two_at-n-requires c = omega (arith, framed-fits c.args.b.now c.is_framed.ensures (c.if-not-is_framed.false))

pub three_at-address-requires : goal.three_at-address-requires
three_at-address-requires c =
    let args = c.args in
    let is_framed = c.is_framed in
    omega (arith, framed-fits args.b.now is_framed.ensures (c.if-not-is_framed.false))

pub slice_bounds-contents-end : goal.slice_bounds-contents-end
slice_bounds-contents-end c =
    let args = c.args in
    let is_framed = c.is_framed in
    let if1 = c.if-not-is_framed in
    let two_at = c.two_at-n in
    omega (arith, framed-fits args.b.now is_framed.ensures (if1.false), two_at.ensures.is)

pub returns : goal.returns
returns c =
    let args = c.args in
    let is_framed = c.is_framed in
    let if1 = c.if-not-is_framed in
    let two_at = c.two_at-n in
    let three_at = c.three_at-address in
    let is-given = c.is_given in
    record-shown (sym is_framed.ensures ∙ if1.false) two_at.ensures three_at.ensures (omega (arith, framed-fits args.b.now is_framed.ensures (if1.false), two_at.ensures.is)) is-given.ensures c.are_components.ensures c.then_some.ensures
