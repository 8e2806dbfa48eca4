-- `ordering::first_word` meets its contract.
use native.Mathlib.Omega.{arith}
use lib.ListN.{length}
use borrow.Author.Tests.{true-eqb, false-eqb}
use Rattle.components.proofs.FirstLaws.{leading}
use Rattle.ordering.proofs.Spelling.{none_told, word-told}
use Rattle.ordering.proofs.first_word.Goals as goal

pub returns-then-is_empty-clause-reads : goal.returns-then-is_empty-clause-reads
returns-then-is_empty-clause-reads c = none_told c.expr_bytes-x.ensures c.args.out.now (true-eqb (length c.expr_bytes-x.result.now) 0 c.if-is_empty.ensures)

pub chars_of-w-requires : goal.chars_of-w-requires
chars_of-w-requires c = leading c.expr_bytes-x.ensures.whole (false-eqb (length c.expr_bytes-x.result.now) 0 c.if-is_empty.ensures)

pub kind_of-requires : goal.kind_of-requires
kind_of-requires c = leading c.expr_bytes-x.ensures.whole (false-eqb (length c.expr_bytes-x.result.now) 0 c.if-is_empty.ensures)

pub returns-clause-reads : goal.returns-clause-reads
returns-clause-reads c =
    word-told c.expr_bytes-x.ensures c.args.out.now (false-eqb (length c.expr_bytes-x.result.now) 0 c.if-is_empty.ensures) c.kind_of.ensures c.chars_of-w.ensures c.put.ensures (omega arith)
