-- `macro_reading::read_definitions` meets its contract. The invariant: the macros so far are in cells, and the others follow from place i on.
use native.Mathlib.Omega.{arith}
use borrow.Author.Rules.{rules}
use Rattle.std.proofs.Common.{sym, ap, ◌∙◌, ◌≡◌, cond}
use Rattle.std.specs.Option.{is_some}
use Rattle.macro_reading.proofs.Enlisting.{step-least, listing_none, listing-kept, listing-on}
use Rattle.macro_reading.proofs.read_definitions.Goals as goal

pub loop-r-init : goal.loop-r-init
loop-r-init c = rw c.nothing-passed.ensures (listing_none c.requires)

pub loop-r-smaller : goal.loop-r-smaller
loop-r-smaller c = let z = c.read_definition.ensures.defining _ c.in-Some.is in rw c.and-passed.ensures (omega (arith, z.from_here, z.most, step-least (is_some c.in-Some.r.used)))

pub loop-r-preserved : goal.loop-r-preserved
loop-r-preserved c =
    let k : c.from-k.result ≡ cond c.is_some.result 1 0 = search rules in
    rw (c.unwrap_or-q.ensures, c.and-passed.ensures, k, c.is_some.ensures) (listing-on c.requires c.loop-r.invariant c.read_definition.ensures c.in-Some.is)

pub returns : goal.returns
returns c =
    record {
      lists = listing-kept c.requires c.loop-r.invariant c.read_definition.ensures.kept;
      done = sym c.read_definition.ensures.opened_is ∙ ap is_some c.in_default.is;
    }
