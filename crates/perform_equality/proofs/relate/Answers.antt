-- `perform_equality::relate` meets its contract.
use Rattle.performing.specs.PlaceLaws.{performing-one, performing-two}
use Rattle.perform_equality.proofs.Operands.{related-named, related-others, input-relatable, input-related, expression-relating}
use Rattle.perform_equality.proofs.relate.Goals as goal

pub index_of-index-requires : goal.index_of-index-requires
index_of-index-requires c = (related-named (performing-one c.requires c.first-x.ensures)).lettered

pub variable_of-requires : goal.variable_of-requires
variable_of-requires c = (related-named (performing-one c.requires c.first-x.ensures)).lettered

pub rw_input-requires : goal.rw_input-requires
rw_input-requires c = input-relatable (performing-two c.requires c.first-x.ensures c.second.ensures) c.index_of-index.ensures c.variable_of.ensures c.in-Input.is

pub relate_expression-requires : goal.relate_expression-requires
relate_expression-requires c = expression-relating c.requires c.first-x.ensures c.variable_of.ensures c.in-Expression.is

pub returns-in-Input : goal.returns-in-Input
returns-in-Input c = input-related (performing-two c.requires c.first-x.ensures c.second.ensures) c.index_of-index.ensures c.variable_of.ensures c.in-Input.is c.rw_input.ensures

pub returns-in-Expression : goal.returns-in-Expression
returns-in-Expression c = c.relate_expression.ensures c.args.task.first.now c.args.task.second.now

pub unreachable-requires : goal.unreachable-requires
unreachable-requires c = related-others (performing-one c.requires c.first-x.ensures) c.variable_of.ensures c.in_default.not-Input c.in_default.not-Expression
