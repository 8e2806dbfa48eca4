-- `store::move_back_to_front` meets its contract.
use Rattle.store.proofs.Moves.{back_copyable, back_pushable}
use Rattle.store.proofs.move_back_to_front.Goals as goal

pub copy_out-requires : goal.copy_out-requires
copy_out-requires c = back_copyable c.requires c.len_of-len.ensures

pub push_front-requires : goal.push_front-requires
push_front-requires c = back_pushable c.requires c.copy_out.new.hold c.drop_back.ensures
