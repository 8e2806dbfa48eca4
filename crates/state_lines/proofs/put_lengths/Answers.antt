-- `state_lines::put_lengths` meets its contract.
use Rattle.state_lines.proofs.Writing.{lengths-put}
use Prim.Native.Nat.{◌/◌, ◌%◌}
use Rattle.state_lines.proofs.put_lengths.Goals as goal

pub returns : goal.returns
returns c = let front = c.put_front in let low = c.put_byte in let high = c.put_byte-2 in lengths-put c.args.dst.now c.args.at c.args.slot.kind c.args.slot.index (c.args.n / 256) (c.args.n % 256) (c.args.k % 256) (c.args.k / 256) front.new.dst low.new.dst high.new.dst c.requires.room front.ensures low.ensures high.ensures
