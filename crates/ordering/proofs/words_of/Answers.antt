-- `ordering::words_of` meets its contract.
use native.Mathlib.Omega.{arith}
use Rattle.machine.specs.Arguments.{side}
use Rattle.packed.specs.Packed.{table_of}
use Rattle.table.specs.Denote.{arg_of}
use Rattle.ordering.proofs.Spelling.{both-told}
use Rattle.ordering.proofs.words_of.Goals as goal

pub returns-clause-reads : goal.returns-clause-reads
returns-clause-reads c =
    λ ins. both-told _ (side ins c.args.state.now.store (arg_of (table_of c.args.table.cells.now) c.args.arg)) c.first_word-x.ensures.reads (c.other_word-y.ensures ins) (omega arith) (omega arith) c.ask_kinds.ensures
