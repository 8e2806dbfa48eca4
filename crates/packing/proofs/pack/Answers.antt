-- `packing::pack` meets its contract.
use Rattle.gaps.proofs.Laws.{length-abs}
use Rattle.packing.proofs.Writing.{written}
use Rattle.packing.proofs.pack.Goals as goal

pub returns : goal.returns
returns c =
    let args = c.args in
    let pre = c.requires in
    let pack-lengths = c.pack_lengths in
    let pack-strings = c.pack_strings-at in
    let clear = c.clear in
    written args.state.now _ _ _ _ _ (length-abs args.pool.now args.ends.now) pre.fine.fits pre.long pack-lengths.ensures pack-strings.ensures clear.ensures
