-- `store::push_front` meets its contract.
use Rattle.gaps.specs.Gaps.{pushed_front}
use Rattle.gaps.proofs.Laws.{after}
use Rattle.store.proofs.push_front.Goals as goal

pub returns : goal.returns
returns c = after c.make_room.ensures.holds (pushed_front c.args.i c.args.bytes.now) c.put_front.ensures
