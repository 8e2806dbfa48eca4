-- `stepping::step` meets its contract.
use mathlib.Core.Path.{ap}
use Rattle.std.proofs.lemmas.Result.{err_from_is_err_and}
use Rattle.instructions.specs.Questions.{told_by}
use Rattle.instructions.proofs.Asking.{some}
use Rattle.stepping.proofs.Steps.{operated, jumping, going_on, jumped, stopped, follows, followed}
use Rattle.stepping.proofs.step.Goals as goal

pub instruction_at-instruction-requires : goal.instruction_at-instruction-requires
instruction_at-instruction-requires c = operated c.requires c.next_instruction-i.ensures.is

pub perform_jump-requires : goal.perform_jump-requires
perform_jump-requires c = jumping c.requires c.next_instruction-i.ensures.is c.instruction_at-instruction.ensures c.leading.ensures c.if-leading.true

pub returns-then-leading : goal.returns-then-leading
returns-then-leading c = jumped c.perform_jump.ensures

pub perform-requires : goal.perform-requires
perform-requires c = going_on c.requires c.next_instruction-i.ensures.is c.instruction_at-instruction.ensures c.leading.ensures c.if-leading.false

pub returns-in_err-perform : goal.returns-in_err-perform
returns-in_err-perform c =
    let e = err_from_is_err_and c.from_residual.result c.from_residual.ensures.1 in
    rw (e.1, e.2)
    (stopped (going_on c.requires c.next_instruction-i.ensures.is c.instruction_at-instruction.ensures c.leading.ensures c.if-leading.false) c.in_err-perform.ensures
    (some c.in_err-perform.field-0.0))

pub go_on-requires : goal.go_on-requires
go_on-requires c =
    follows (going_on c.requires c.next_instruction-i.ensures.is c.instruction_at-instruction.ensures c.leading.ensures c.if-leading.false) c.perform.ensures (ap told_by c.in_ok-perform.was)

pub returns : goal.returns
returns c =
    followed (going_on c.requires c.next_instruction-i.ensures.is c.instruction_at-instruction.ensures c.leading.ensures c.if-leading.false) c.perform.ensures (ap told_by c.in_ok-perform.was)
    c.go_on.ensures
