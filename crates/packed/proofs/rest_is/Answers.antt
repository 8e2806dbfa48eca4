-- `packed::rest_is` meets its contract.
use native.Mathlib.Omega.{arith}
use Rattle.packed.proofs.Bytes.{bytes-same}
use Rattle.packed.proofs.rest_is.Goals as goal

pub returns : goal.returns
returns c = bytes-same c.args.word.now c.to_le_bytes.result c.args.k c.args.x c.eq.result (omega arith) c.to_le_bytes.ensures c.eq.ensures
