-- `store::exchange` meets its contract.
use Rattle.store.proofs.Moves.{first-movable, second-movable, exchange-end}
use native.Mathlib.Omega.{arith}
use Rattle.store.proofs.exchange.Goals as goal

pub move_front-requires : goal.move_front-requires
move_front-requires c =
    let pre = c.requires in
    let len_of_lem = c.len_of-n in
    let len-of2 = c.len_of-m in
    first-movable pre len_of_lem.ensures len-of2.ensures pre.spare pre.room

pub move_back_to_front-requires : goal.move_back_to_front-requires
move_back_to_front-requires c =
    let pre = c.requires in
    let len_of_lem = c.len_of-n in
    let len-of2 = c.len_of-m in
    let move-front = c.move_front in
    second-movable pre len_of_lem.ensures len-of2.ensures move-front.ensures (omega (arith, pre.spare)) (omega (arith, pre.room))

pub returns : goal.returns
returns c =
    let pre = c.requires in
    let len_of_lem = c.len_of-n in
    let len-of2 = c.len_of-m in
    let move-front = c.move_front in
    let move-back-to-front = c.move_back_to_front in
    exchange-end pre len_of_lem.ensures len-of2.ensures move-front.ensures move-back-to-front.ensures
