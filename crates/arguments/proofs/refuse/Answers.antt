-- `arguments::refuse` meets its contract.
use Rattle.lists.specs.BoolLaws.{byte-is}
use mathlib.Core.Bool.{cond, not}
use mathlib.Core.Path.{sym, ap, ◌∙◌}
use Prim.Native.Nat.{◌+◌, ◌-◌}
use native.Mathlib.Omega.{arith}
use Rattle.heads.specs.HeadLaws.{token-ahead}
use Rattle.arguments.specs.LeftLaws.{leaving-first, left_end, leaving-on}
use Rattle.arguments.specs.ReadLaws.{refusing}
use Rattle.arguments.proofs.refuse.Goals as goal

pub overflow_sub-skip : goal.overflow_sub-skip
overflow_sub-skip c = let most = rw c.from.ensures at c.most.ensures.0 in omega (arith, c.from-2.ensures, most, c.from-before.ensures, c.requires.below)

pub next_item-t-requires : goal.next_item-t-requires
next_item-t-requires c = c.requires.left.inside

pub loop-argument-init : goal.loop-argument-init
loop-argument-init c = (c.args.n, leaving-first (c.from-2.result - c.from-before.result) c.requires.left, c.next_item-t.ensures)

pub next_item-t-requires-in-loop-argument : goal.next_item-t-requires-in-loop-argument
next_item-t-requires-in-loop-argument c = c.loop-argument.invariant.2.stands.most

pub overflow_add-before : goal.overflow_add-before
overflow_add-before c = let l = c.loop-argument.invariant.1 in omega (arith, l.few, l.passing.within.most, c.from-before.ensures, c.requires.left.low)

pub loop-argument-smaller : goal.loop-argument-smaller
loop-argument-smaller c =
    let k = c.loop-argument.invariant.2.stands in
    omega (arith, k.most, token-ahead k (sym c.stops.ensures ∙ c.loop-argument-test.true), c.next_item-t-in-loop-argument.ensures.from)

pub loop-argument-preserved : goal.loop-argument-preserved
loop-argument-preserved c =
    let l = c.loop-argument in (
      l.t.next,
      leaving-on l.invariant.1 l.invariant.2 (sym c.stops.ensures ∙ c.loop-argument-test.true) (rw c.is-argument.ensures at c.with_excess-over.ensures)
          (ap (λ x. l.count + x) (c.from-count.ensures ∙ byte-is _ ∙ ap (λ b. cond (not b) 1 0) c.is-argument.ensures)) c.worse-low.ensures,
      c.next_item-t-in-loop-argument.ensures,
    )

pub returns : goal.returns
returns c =
    refusing c.from-before.ensures (c.from-2.ensures ∙ rw c.from.ensures at c.most.ensures.0)
    (left_end c.loop-argument.invariant.1 c.loop-argument.invariant.2 (sym c.stops.ensures ∙ c.loop-argument-test.false) c.following.ensures) c.missing_or.ensures
