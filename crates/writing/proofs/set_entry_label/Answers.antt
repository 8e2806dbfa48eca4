-- `writing::set_entry_label` meets its contract.
use mathlib.Core.Path.{sym, ap, ◌∙◌}
use native.Mathlib.Omega.{arith}
use Prim.Native.Nat.{ℕ, ◌+◌, ◌/◌}
use lib.ListN.{set}
use Rattle.blocks.specs.Below.LayoutPlaces as layout
use Rattle.table.proofs.Decode.{cell_in}
use Rattle.writing.proofs.Settled.{relabelled-done}
use Rattle.writing.proofs.set_entry_label.Goals as goal

pub returns : goal.returns
returns c =
    let r = c.requires in
    let t = c.args.table.now in
    relabelled-done t c.write.new.cells c.args.k c.args.label c.of-entry.result.text r.there r.few r.label_low
    (c.of-entry.ensures.1 ∙ ap (λ (x : ℕ). x / 128) (c.read.ensures.is ∙ sym (cell_in t (layout.first_entry + c.args.k) (omega (arith, r.there, r.few))))) (c.write.ensures ∙ ap (set t (layout.first_entry + c.args.k)) c.number.ensures)
