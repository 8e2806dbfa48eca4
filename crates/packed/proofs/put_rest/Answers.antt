-- `packed::put_rest` meets its contract.
use native.Mathlib.Omega.{arith}
use Rattle.packed.proofs.Bytes.{put-bytes}
use Rattle.packed.proofs.put_rest.Goals as goal

pub returns : goal.returns
returns c = put-bytes c.args.out.now c.put.new.dst c.to_le_bytes.result c.args.k c.args.n c.args.x (omega arith) (omega arith) c.to_le_bytes.ensures c.put.ensures
