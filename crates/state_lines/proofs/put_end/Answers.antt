-- `state_lines::put_end` meets its contract.
use Rattle.state_lines.proofs.Writing.{end-put}
use Prim.Native.Nat.{◌-◌, ◌%◌}
use Rattle.state_lines.proofs.put_end.Goals as goal

pub returns : goal.returns
returns c = let byte = c.put_byte in end-put c.args.dst.now c.args.at ((256 - c.args.sum) % 256) byte.new.dst c.requires.room byte.ensures
