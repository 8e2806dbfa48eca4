-- `writing::put_switch` meets its contract.
use native.Mathlib.Omega.{arith}
use Rattle.writing.proofs.Settled.{switch-done}
use Rattle.writing.proofs.put_switch.Goals as goal

pub returns : goal.returns
returns c =
    let write = c.write in
    let switches = c.switches-n in
    let entries = c.entries-first in
    switch-done c.args.table.now write.new.cells c.write-2.new.cells switches.result entries.result c.number.result c.args.named c.requires.long switches.ensures.is (omega (arith, switches.ensures.is, c.requires.room)) entries.ensures.is c.number.ensures write.ensures c.write-2.ensures
