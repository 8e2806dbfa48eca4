-- `console::put_field` meets its contract.
use lib.ListN.{length-take}
use Rattle.console.proofs.Putting.{put-long, put_then, put_same, number-told}
use native.Mathlib.Omega.{arith}
use Rattle.console.proofs.put_field.Goals as goal

pub slice_bounds-put-end : goal.slice_bounds-put-end
slice_bounds-put-end c = simp length-take (omega (arith, c.put_decimal-count.ensures.fits))

pub put-requires : goal.put-requires
put-requires c = simp length-take (omega (arith, put-long c.put-next.ensures, c.put-next.ensures.count, c.put_decimal-count.ensures.fits, c.requires.room))

pub returns : goal.returns
returns c = put_then c.put-next.ensures (put_same (number-told c.args.n c.put_decimal-count.ensures) c.put.ensures)
