-- `store::move_front_to_back` meets its contract.
use Rattle.store.proofs.Moves.{front_copyable, front_pushable}
use Rattle.store.proofs.move_front_to_back.Goals as goal

pub copy_out-requires : goal.copy_out-requires
copy_out-requires c = front_copyable c.requires

pub push_back-requires : goal.push_back-requires
push_back-requires c = front_pushable c.requires c.copy_out.new.hold c.drop_front.ensures
