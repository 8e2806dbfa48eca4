-- `writing::put_entry` meets its contract.
use mathlib.Core.Path.{◌≡◌, ap, ◌∙◌}
use native.Mathlib.Omega.{arith}
use Prim.Native.Nat.{◌+◌}
use lib.ListN.{set}
use Rattle.blocks.specs.Below.LayoutPlaces as layout
use Rattle.writing.proofs.Settled.{entry_done, one-more, last-read}
use Rattle.writing.proofs.put_entry.Goals as goal

pub read-requires : goal.read-requires
read-requires c =
    omega (arith, c.requires.few, c.switches.ensures.is, c.requires.long)

pub number-requires-3 : goal.number-requires-3
number-requires-3 c =
    let low = last-read c.args.table.now c.switches.result c.read.result c.switches.ensures.is c.requires.few c.read.ensures.is c.requires.last in
    let s = c.of-switch in
    rw (one-more c.read.result s.result.count s.result.first s.result.named s.ensures.0 s.ensures.1 s.ensures.2) (omega (arith, low))

pub write-requires-2 : goal.write-requires-2
write-requires-2 c =
    let low = last-read c.args.table.now c.switches.result c.read.result c.switches.ensures.is c.requires.few c.read.ensures.is c.requires.last in
    let s = c.of-switch in
    let e : c.number-3.result ≡ c.read.result + 2 =
    c.number-3.ensures ∙ one-more c.read.result s.result.count s.result.first s.result.named s.ensures.0 s.ensures.1 s.ensures.2 in
    record { room = omega (arith, c.requires.few, c.switches.ensures.is, c.requires.long); most = omega (arith, e, low) }

pub overflow_add-n-2 : goal.overflow_add-n-2
overflow_add-n-2 c = omega (arith, c.read.ensures.most)

pub returns : goal.returns
returns c =
    let t = c.args.table.now in
    let write = c.write in
    let write2 = c.write-2 in
    let entries = c.entries-n in
    let switches = c.switches in
    let read = c.read in
    let s = c.of-switch in
    let e : c.number-3.result ≡ read.result + 2 =
    c.number-3.ensures ∙ one-more read.result s.result.count s.result.first s.result.named s.ensures.0 s.ensures.1 s.ensures.2 in
    rw (← c.number.ensures)
    (entry_done t write.new.cells write2.new.cells c.write-3.new.cells entries.result switches.result read.result c.args.label c.number.result c.requires.long entries.ensures.is (omega (arith, entries.ensures.is, c.requires.room)) switches.ensures.is (omega (arith, switches.ensures.is, c.requires.some)) (omega (arith, switches.ensures.is, c.requires.few)) c.requires.label_low read.ensures.is (write.ensures ∙ ap (set t (layout.first_entry + entries.result)) c.number-2.ensures) (write2.ensures ∙ ap (set write.new.cells (6151 + switches.result)) e) c.write-3.ensures)
