-- `shortening::shorten_refused` meets its contract.
use native.Mathlib.Omega.{arith}
use mathlib.Core.Path.{sym}
use lib.ListN.{length, drop, length-append, length-drop, length-take}
use lib.Seq.{length-take-le}
use Rattle.shortening.proofs.Giving.{table-long, first-cells, fits-row, tryable, text-in, within-row, givable, part-written}
use Rattle.shortening.proofs.Rounding.{finished-kept}
use Rattle.shortening.proofs.shorten_refused.Goals as goal

pub put-requires : goal.put-requires
put-requires c = fits-row c.args.table.now c.requires

pub slice_bounds-rounds-end-2 : goal.slice_bounds-rounds-end-2
slice_bounds-rounds-end-2 c =
    table-long c.args.table.now c.requires

pub slice_bounds-rounds-end-3 : goal.slice_bounds-rounds-end-3
slice_bounds-rounds-end-3 c =
    sym (first-cells c.args.table.now c.requires)

pub rounds-size-requires : goal.rounds-size-requires
rounds-size-requires c =
    tryable c.args.table.now c.requires

pub slice_bounds-part-end : goal.slice_bounds-part-end
slice_bounds-part-end c =
    text-in c.args.table.now c.requires c.put.new.dst (omega arith)

pub slice_bounds-give-end : goal.slice_bounds-give-end
slice_bounds-give-end c =
    sym (length-take-le _ _ (within-row c.args.table.now c.requires (omega arith) c.put.ensures (finished-kept (drop (length c.args.text.now) c.put.new.dst) c.rounds-size.ensures) (omega (arith, length-append c.rounds-size.new.part (drop (length c.args.text.now) c.put.new.dst), length-drop (length c.args.text.now) c.put.new.dst, length-take (length c.args.text.now) c.put.new.dst, text-in c.args.table.now c.requires c.put.new.dst (omega arith)))))

pub give-requires : goal.give-requires
give-requires c =
    givable c.args.table.now c.requires c.put.ensures (finished-kept (drop (length c.args.text.now) c.put.new.dst) c.rounds-size.ensures)

pub returns : goal.returns
returns c =
    part-written c.args.table.now c.requires c.put.ensures (finished-kept (drop (length c.args.text.now) c.put.new.dst) c.rounds-size.ensures) c.rounds-size.new.table (omega arith) c.give.ensures
