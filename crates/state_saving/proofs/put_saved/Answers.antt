-- `state_saving::put_saved` meets its contract.
use mathlib.Core.Path.{sym, subst}
use lib.ListN.{length}
use Rattle.state_saving.proofs.Parts.{cells-long, roomy, frames-fit, saved-put}
use Rattle.state_saving.specs.Saving.{Appended, memory_frames, FramesFit}
use Rattle.state_saving.proofs.put_saved.Goals as goal

pub slice_bounds-m-end : goal.slice_bounds-m-end
slice_bounds-m-end c = sym (cells-long c.requires.0)

pub put_frames-requires : goal.put_frames-requires
put_frames-requires c = subst (λ m. FramesFit m (length c.args.out.now)) (sym c.new.ensures) (frames-fit c.requires.0 c.requires.1)

pub new-requires : goal.new-requires
new-requires c = roomy c.requires.0

pub returns : goal.returns
returns c = saved-put c.requires.0 (subst (λ m. Appended (memory_frames m) 0 c.put_frames.result c.args.out.now c.put_frames.new.out) c.new.ensures c.put_frames.ensures)
