-- `appending::append` meets its contract.
use native.Mathlib.Omega.{arith}
use mathlib.Core.Path.{refl}
use Rattle.appending.proofs.append.Goals as goal

pub returns-then-room-bytes : goal.returns-then-room-bytes
returns-then-room-bytes c = record { told = record { long = omega arith; held = refl } }

pub returns : goal.returns
returns c = record { told = record { counted = refl; fits = omega arith; held = c.put.ensures } }
