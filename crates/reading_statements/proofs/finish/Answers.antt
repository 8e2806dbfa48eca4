-- `reading_statements::finish` meets its contract.
use mathlib.Core.Path.{refl}
use Rattle.std.proofs.Common.{rules}
use Rattle.reading_statements.proofs.finish.Goals as goal

pub returns-in_err-verdict-clause-reads : goal.returns-in_err-verdict-clause-reads
returns-in_err-verdict-clause-reads c = rw c.in_err-verdict.was (search rules)

pub returns-clause-reads : goal.returns-clause-reads
returns-clause-reads c = rw c.in_ok-verdict.was (_, (refl, c.progress_after.ensures))
