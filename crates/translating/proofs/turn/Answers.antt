-- `translating::turn` meets its contract.
use native.Mathlib.Omega.{arith}
use mathlib.Core.Path.{sym}
use lib.Seq.{length-take-le}
use Rattle.translating.proofs.Outcomes.{front-copied, beyond-gives, counted, narrow_gives, fitting-gives}
use Rattle.translating.proofs.turn.Goals as goal

pub returns-in_default : goal.returns-in_default
returns-in_default c = beyond-gives c.args.text.now c.requires c.respell.ensures (omega arith) c.args.out.now c.in_default.is

pub returns-then-out-n : goal.returns-then-out-n
returns-then-out-n c = narrow_gives c.args.text.now c.requires c.respell.ensures (omega arith) c.args.out.now c.in-Some.is c.if-out-n.true

pub returns : goal.returns
returns c =
    let r = c.respell in
    let l = length-take-le c.in-Some.n r.new.made (omega (arith, counted c.args.text.now c.requires r.ensures (omega arith) c.args.out.now c.in-Some.is)) in
    fitting-gives c.args.text.now c.requires r.ensures (omega arith) c.args.out.now c.in-Some.is c.if-out-n.false (front-copied c.args.out.now c.copy_from_slice.ensures.after (sym l))
