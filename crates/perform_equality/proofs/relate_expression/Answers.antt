-- `perform_equality::relate_expression` meets its contract.
use Rattle.performing.specs.PlaceLaws.{read-two}
use Rattle.perform_equality.proofs.Operands.{one-named, any-relatable, any-related, one-relatable, one-related}
use Rattle.perform_equality.proofs.relate_expression.Goals as goal

pub is_any-requires : goal.is_any-requires
is_any-requires c = c.requires.expression.lettered

pub index_of-index-requires : goal.index_of-index-requires
index_of-index-requires c = c.requires.expression.lettered

pub rw_any-requires : goal.rw_any-requires
rw_any-requires c = any-relatable (read-two c.requires.carrying c.requires.read c.second.ensures) c.requires.expression c.is_any.ensures c.if-is_any.true c.index_of-index.ensures

pub returns-then-is_any : goal.returns-then-is_any
returns-then-is_any c = any-related (read-two c.requires.carrying c.requires.read c.second.ensures) c.requires.expression c.is_any.ensures c.if-is_any.true c.index_of-index.ensures c.rw_any.ensures

pub source_of-source-requires : goal.source_of-source-requires
source_of-source-requires c = one-named c.requires.expression c.is_any.ensures c.if-is_any.false

pub rw_one-requires : goal.rw_one-requires
rw_one-requires c = one-relatable (read-two c.requires.carrying c.requires.read c.second-2.ensures) c.source_of-source.ensures

pub returns : goal.returns
returns c = one-related (read-two c.requires.carrying c.requires.read c.second-2.ensures) c.source_of-source.ensures c.rw_one.ensures
