-- `store::move_front` meets its contract.
use Rattle.store.proofs.Moves.{front_copyable, front_pushable}
use Rattle.store.proofs.move_front.Goals as goal

pub copy_out-requires : goal.copy_out-requires
copy_out-requires c = front_copyable c.requires

pub push_front-requires : goal.push_front-requires
push_front-requires c = front_pushable c.requires c.copy_out.new.hold c.drop_front.ensures
