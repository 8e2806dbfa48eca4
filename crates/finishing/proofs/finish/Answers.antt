-- `finishing::finish` meets its contract.
use native.Mathlib.Omega.{arith}
use mathlib.Core.Path.{refl, sym, ap, ◌∙◌}
use Rattle.std.proofs.lemmas.Result.{err_from_is_err_and}
use Rattle.linking.proofs.Answers.{none-at}
use Rattle.statements.specs.Faults.{verdict_of}
use Rattle.progress.specs.ProgressLaws.{none-asked}
use Rattle.finishing.proofs.Ending.{names-most, kept, no-section, not-ended, finished}
use Rattle.finishing.proofs.finish.Goals as goal

pub returns-then-is_none : goal.returns-then-is_none
returns-then-is_none c = no-section c.last_place-last.ensures (none-asked c.is_none.result c.args.p.section c.is_none.ensures ∙ c.if-is_none.true) c.refused.result (ap verdict_of c.refused.ensures)

pub first_waiting-requires : goal.first_waiting-requires
first_waiting-requires c = omega (arith, c.requires.drafted.tells.waiting.few)

pub slice_bounds-lowest_mark-start : goal.slice_bounds-lowest_mark-start
slice_bounds-lowest_mark-start c = omega (arith, c.first_waiting.ensures, c.requires.drafted.tells.waiting.few)

pub slice_bounds-lowest_mark-end : goal.slice_bounds-lowest_mark-end
slice_bounds-lowest_mark-end c = omega (arith, names-most c.requires.drafted)

pub resolve-requires : goal.resolve-requires
resolve-requires c = kept c.requires.drafted

pub returns-in_err-decide : goal.returns-in_err-decide
returns-in_err-decide c =
    let e = err_from_is_err_and c.from_residual.result c.from_residual.ensures.1 in
    let some = none-asked c.is_none.result c.args.p.section c.is_none.ensures ∙ c.if-is_none.false in
    rw (e.1, e.2)
    (not-ended c.last_place-last.ensures some c.end_fault-fault.ensures refl c.instructions-code.ensures.is refl (rw c.first_waiting.ensures at c.lowest_mark-waiting.ensures)
    _ (sym (ap verdict_of c.in_err-decide.was) ∙ c.decide.ensures))

pub returns : goal.returns
returns c =
    let some = none-asked c.is_none.result c.args.p.section c.is_none.ensures ∙ c.if-is_none.false in
    finished c.last_place-last.ensures some c.end_fault-fault.ensures refl c.instructions-code.ensures.is refl (rw c.first_waiting.ensures at c.lowest_mark-waiting.ensures)
    (none-at 25 _ c.in_ok-decide.was c.decide.ensures) c.resolve.ensures
