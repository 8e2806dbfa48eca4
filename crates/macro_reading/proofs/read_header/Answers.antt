-- `macro_reading::read_header` meets its contract.
use native.Mathlib.Omega.{arith}
use mathlib.Core.Path.{refl, ap}
use Prim.Native.Nat.{ℕ, ◌+◌}
use borrow.Author.Rules.{rules}
use Rattle.macro_reading.proofs.Heading.{heading-none, header-forward, heading-on}
use Rattle.macro_reading.proofs.read_header.Goals as goal

pub loop-t-init : goal.loop-t-init
loop-t-init c = rw c.nothing-passed.ensures (heading-none c.requires)

pub is_identifier-requires : goal.is_identifier-requires
is_identifier-requires c = (c.next_before.ensures.some _ c.in-Some.is).first.held

pub loop-t-smaller : goal.loop-t-smaller
loop-t-smaller c =
    let e = c.next_before.ensures.some _ c.in-Some.is in
    rw c.over-passed.ensures (omega (arith, header-forward c.requires c.loop-t.invariant e, e.first.held.most))

pub loop-t-preserved : goal.loop-t-preserved
loop-t-preserved c =
    let e = c.next_before.ensures.some _ c.in-Some.is in
    rw (c.put.ensures, c.word_cell.ensures, c.over-passed.ensures)
    (heading-on c.requires c.loop-t.invariant e c.is-word.result c.is-word.ensures (ap (λ (z : ℕ). c.loop-t.words + z) (search rules)) c.earlier-first.ensures c.is_identifier.ensures refl)

pub returns : goal.returns
returns c = record { heads = c.loop-t.invariant; done = c.next_before.ensures.none c.in_default.is }
