-- `batch::run_table` meets its contract.
use mathlib.Core.Path.{sym, ◌∙◌}
use mathlib.Core.List.{[], ◌∷◌}
use Rattle.batch.proofs.Calls.{refusal-printed, begun, ended-as, run-put}
use borrow.Author.Rules.{rules}
use Rattle.batch.proofs.run_table.Goals as goal

pub returns-then-started-ne-ACCEPTED : goal.returns-then-started-ne-ACCEPTED
returns-then-started-ne-ACCEPTED c = refusal-printed c.args.table.now _ (c.args.i1.now ∷ [] ∷ []) (search rules) c.eol2_start.ensures c.number-started.ensures c.if-started-ne-ACCEPTED.true c.refusal.ensures

pub print_run-requires : goal.print_run-requires
print_run-requires c = ended-as (search rules) (begun c.args.table.now _ (c.args.i1.now ∷ [] ∷ []) (search rules) c.eol2_start.ensures (sym c.number-started.ensures ∙ c.if-started-ne-ACCEPTED.false)) c.eol2_run-answer.ensures c.stopped.ensures c.value.ensures c.requires

pub returns : goal.returns
returns c = run-put (search rules) (begun c.args.table.now _ (c.args.i1.now ∷ [] ∷ []) (search rules) c.eol2_start.ensures (sym c.number-started.ensures ∙ c.if-started-ne-ACCEPTED.false)) c.eol2_run-answer.ensures c.stopped.ensures c.value.ensures c.print_run.ensures
