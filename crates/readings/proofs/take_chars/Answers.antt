-- `readings::take_chars` meets its contract.
use mathlib.Core.Path.{subst}
use lib.ListN.{length}
use Rattle.matching.specs.declared.Test.{Test}
use Rattle.readings.specs.Readings.{CharsTakeable}
use Rattle.readings.proofs.Beside.{firsts-room}
use Rattle.readings.proofs.take_chars.Goals as goal

pub first_chars-n-requires : goal.first_chars-n-requires
first_chars-n-requires c =
    let h = subst (λ (t : Test). CharsTakeable t (length c.args.hold.now)) c.in-Among.is c.requires in
    firsts-room h.fitting h.room
