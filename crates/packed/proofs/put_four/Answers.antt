-- `packed::put_four` meets its contract.
use native.Mathlib.Omega.{arith}
use Rattle.packed.proofs.Bytes.{put_bytes}
use Rattle.packed.proofs.put_four.Goals as goal

pub returns : goal.returns
returns c = put_bytes c.args.out.now c.put.new.dst c.to_le_bytes.result c.args.k c.args.x (omega arith) c.to_le_bytes.ensures c.put.ensures
