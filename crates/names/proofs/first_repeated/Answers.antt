-- `names::first_repeated` meets its contract.
use mathlib.Core.Path.{refl}
use native.Mathlib.Omega.{arith}
use Rattle.names.specs.Names.{names_of}
use Rattle.names.proofs.Lowest.{repeating-first, repeating-more}
use Rattle.names.proofs.first_repeated.Goals as goal

pub loop-k-init : goal.loop-k-init
loop-k-init c = (repeating-first c.args.text.now (names_of c.args.text.now c.args.before.now) c.args.names.now, omega arith)

pub loop-k-preserved : goal.loop-k-preserved
loop-k-preserved c =
    let a = c.args in
    let i = c.loop-k.invariant in
    (repeating-more a.text.now (names_of a.text.now a.before.now) a.names.now i.0 c.loop-k-test.true refl c.met_before.ensures c.lower-fault.ensures, omega arith)
