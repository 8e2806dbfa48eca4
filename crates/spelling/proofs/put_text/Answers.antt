-- `spelling::put_text` meets its contract.
use Rattle.std.proofs.Common.{arith, refl, ◌∙◌}
use Rattle.spelling.proofs.Chars.{put-begins, put-room, put_on, fits-own, own-done}
use Rattle.spelling.proofs.put_text.Goals as goal

pub loop-b-init : goal.loop-b-init
loop-b-init c = (refl, put-begins (omega arith))

pub put_char-j-requires : goal.put_char-j-requires
put_char-j-requires c = let h = c.loop-b in put-room (fits-own c.requires) h.invariant.1 c.loop-b-test.true h.invariant.0

pub loop-b-preserved : goal.loop-b-preserved
loop-b-preserved c =
    let h = c.loop-b in
    let p = c.put_char-j in
    ((omega arith) ∙ h.invariant.0, rw c.takes_next-star.ensures (put_on (fits-own c.requires) h.invariant.1 c.loop-b-test.true p.ensures))

pub returns : goal.returns
returns c = own-done c.args.text.now c.args.at c.args.end c.loop-b.invariant.1 c.loop-b-test.false
