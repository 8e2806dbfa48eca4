-- `store::push_back` meets its contract.
use Rattle.gaps.specs.Gaps.{pushed_back}
use Rattle.gaps.proofs.Laws.{after}
use Rattle.store.proofs.push_back.Goals as goal

pub returns : goal.returns
returns c = after c.make_room.ensures.holds (pushed_back c.args.i c.args.bytes.now) c.put_back.ensures
