-- `batch::answer` meets its contract.
use lib.ListN.{replicate, length-replicate}
use Prim.Native.Nat.{ℕ}
use lib.Seq.{length-take-le}
use Rattle.std.proofs.lemmas.List.{take_rest}
use Rattle.batch.proofs.Loading.{refusal-room, refusal-put, table-put}
use mathlib.Core.Path.{refl, sym}
use Rattle.batch.proofs.answer.Goals as goal

pub slice_bounds-eol2_load-end : goal.slice_bounds-eol2_load-end
slice_bounds-eol2_load-end c = sym (length-take-le c.text_end-end.result c.args.input.now c.text_end-end.ensures.within)

pub refusal-requires : goal.refusal-requires
refusal-requires c = refusal-room c.args.input.now c.text_end-end.ensures _ (replicate {A = ℕ} 8192 0) refl (length-replicate {A = ℕ} 8192 0) c.eol2_load-loaded.ensures.answer c.number-n.ensures c.requires c.value.ensures

pub returns-then-n-ne-ACCEPTED : goal.returns-then-n-ne-ACCEPTED
returns-then-n-ne-ACCEPTED c = refusal-put c.args.input.now c.text_end-end.ensures _ (replicate {A = ℕ} 8192 0) refl (length-replicate {A = ℕ} 8192 0) c.eol2_load-loaded.ensures.answer c.number-n.ensures c.value.ensures c.if-n-ne-ACCEPTED.true c.refusal.ensures

pub returns : goal.returns
returns c = table-put c.args.input.now c.text_end-end.ensures _ (replicate {A = ℕ} 8192 0) refl (length-replicate {A = ℕ} 8192 0) c.eol2_load-loaded.ensures.answer c.number-n.ensures (take_rest c.args.input.now c.text_end-end.result) c.eol2_load-loaded.ensures.cells c.if-n-ne-ACCEPTED.false c.run_table.ensures
