-- `state_contents::half` meets its contract.
use Rattle.state_contents.proofs.Finding.{gathered-by, gathered-none, gathered-some, half-none, half-short, half-after-none, half-after, half-before-all, half-before}
use Rattle.state_contents.proofs.half.Goals as goal

pub returns-in_default : goal.returns-in_default
returns-in_default c = half-none _ _ (gathered-none (gathered-by _ c.of.ensures.kind c.of.ensures.index c.contents.ensures) c.in_default.is) c.args.after

pub returns-then-n-lt2 : goal.returns-then-n-lt2
returns-then-n-lt2 c = half-short (gathered-some (gathered-by _ c.of.ensures.kind c.of.ensures.index c.contents.ensures) c.in-Some.is) c.if-n-lt2.true c.args.after

pub returns-then-n-middle : goal.returns-then-n-middle
returns-then-n-middle c =
    let two = c.two_at-middle in
    half-after-none (gathered-some (gathered-by _ c.of.ensures.kind c.of.ensures.index c.contents.ensures) c.in-Some.is) c.if-n-lt2.false two.result two.ensures.is c.if-after.true c.if-n-middle.true

pub returns-then-after : goal.returns-then-after
returns-then-after c =
    let two = c.two_at-middle in
    half-after (gathered-some (gathered-by _ c.of.ensures.kind c.of.ensures.index c.contents.ensures) c.in-Some.is) c.if-n-lt2.false two.result two.ensures.is c.if-after.true c.if-n-middle.false

pub returns-then-n-middle-2 : goal.returns-then-n-middle-2
returns-then-n-middle-2 c =
    let two = c.two_at-middle in
    half-before-all (gathered-some (gathered-by _ c.of.ensures.kind c.of.ensures.index c.contents.ensures) c.in-Some.is) c.if-n-lt2.false two.result two.ensures.is c.if-after.false c.if-n-middle-2.true

pub returns : goal.returns
returns c =
    let two = c.two_at-middle in
    half-before (gathered-some (gathered-by _ c.of.ensures.kind c.of.ensures.index c.contents.ensures) c.in-Some.is) c.if-n-lt2.false two.result two.ensures.is c.if-after.false c.if-n-middle-2.false
