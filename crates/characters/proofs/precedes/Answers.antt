-- `characters::precedes` meets its contract. The invariant: as many characters of both words were met, and what is left of them is ordered as they are.
use mathlib.Core.Path.{sym, ap, ◌∙◌}
use native.Mathlib.Omega.{arith}
use lib.ListN.{length}
use Rattle.std.proofs.Common.{⊎_elim, inl, inr}
use Rattle.std.specs.Iterator.Adapters.{zip_first, zip_second}
use Rattle.std.specs.Slice.Iter.{iter_rest}
use Rattle.characters.proofs.Steps.{same_first, one_ends}
use Rattle.characters.proofs.precedes.Goals as goal

pub loop-x-preserved : goal.loop-x-preserved
loop-x-preserved c =
    let h = c.in-Some.ensures.steps in
    let next = c.next.new.self in
    let e = same_first c.in-Some.x.now c.in-Some.y.now (iter_rest (zip_first next)) (iter_rest (zip_second next)) c.if-x-y.false in
    (omega (arith, ap length h.0, ap length h.1, c.loop-x.invariant.0), sym e ∙ (rw (h.0, h.1) at c.loop-x.invariant.1))

pub returns : goal.returns
returns c =
    let h = c.in-None.ensures.steps in
    one_ends _ _ _ _ c.loop-x.invariant.0 (⊎_elim (λ a. inl a.1.0) (λ b. inr b.1.0) h) ∙ c.loop-x.invariant.1
