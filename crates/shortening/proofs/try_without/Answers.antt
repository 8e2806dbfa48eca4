-- `shortening::try_without` meets its contract.
use native.Mathlib.Omega.{arith}
use lib.ListN.{length-take}
use mathlib.Core.Path.{refl, sym, ◌∙◌}
use Rattle.shortening.proofs.Cutting.{exchangeable-back, dropped, not-dropped}
use Rattle.shortening.proofs.try_without.Goals as goal

pub slice_bounds-load-end-2 : goal.slice_bounds-load-end-2
slice_bounds-load-end-2 c =
    simp length-take (omega (arith, c.requires.some, c.requires.upto))

pub returns-then-is_refused_by : goal.returns-then-is_refused_by
returns-then-is_refused_by c =
    dropped c.requires c.exchange.ensures refl c.load-loaded.ensures (sym c.is_refused_by.ensures ∙ c.if-is_refused_by.true)

pub exchange-requires-2 : goal.exchange-requires-2
exchange-requires-2 c =
    exchangeable-back c.requires c.exchange.ensures (omega arith)

pub returns : goal.returns
returns c =
    not-dropped c.requires c.exchange.ensures refl c.load-loaded.ensures (sym c.is_refused_by.ensures ∙ c.if-is_refused_by.false) c.exchange-2.ensures
