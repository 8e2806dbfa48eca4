-- `perform_moves::remove` meets its contract.
use Rattle.performing.specs.PlaceLaws.{performing-one, performing-two}
use Rattle.perform_moves.proofs.Operands.{drop-from, drop-others, passable, passed_by, removable, removed}
use Rattle.perform_moves.proofs.remove.Goals as goal

pub index_of-index-requires : goal.index_of-index-requires
index_of-index-requires c = (drop-from (performing-one c.requires c.first-x.ensures)).lettered

pub variable_of-requires : goal.variable_of-requires
variable_of-requires c = (drop-from (performing-one c.requires c.first-x.ensures)).lettered

pub usun_input-requires : goal.usun_input-requires
usun_input-requires c = passable (performing-two c.requires c.first-x.ensures c.second.ensures) c.index_of-index.ensures c.variable_of.ensures c.in-Input.is

pub usun-requires : goal.usun-requires
usun-requires c = removable (performing-two c.requires c.first-x.ensures c.second-in-Expression.ensures) c.index_of-index.ensures c.variable_of.ensures c.in-Expression.is

pub returns-in-Input : goal.returns-in-Input
returns-in-Input c = passed_by (performing-two c.requires c.first-x.ensures c.second.ensures) c.index_of-index.ensures c.variable_of.ensures c.in-Input.is c.usun_input.ensures

pub returns-in-Expression : goal.returns-in-Expression
returns-in-Expression c = removed (performing-two c.requires c.first-x.ensures c.second-in-Expression.ensures) c.index_of-index.ensures c.variable_of.ensures c.in-Expression.is c.usun.ensures

pub unreachable-requires : goal.unreachable-requires
unreachable-requires c = drop-others (performing-one c.requires c.first-x.ensures) c.variable_of.ensures c.in_default.not-Input c.in_default.not-Expression
