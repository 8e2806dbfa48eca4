-- `reading_statements::read_instruction` meets its contract.
use mathlib.Core.Path.{ap, ◌∙◌}
use Rattle.statements.specs.Faults.{decided, then, verdict_of}
use Rattle.syntax.specs.Verdict.{Verdict}
use Rattle.reading_statements.specs.GatheringLaws.{advanceable}
use Rattle.reading_statements.specs.InstrLaws.{operates, whole-instr, declarable, read-instr}
use Rattle.reading_statements.proofs.read_instruction.Goals as goal

pub read_arguments-a-requires : goal.read_arguments-a-requires
read_arguments-a-requires c =
    let p = c.requires in
    let j = p.met.reading.judging in
    operates p.is j.headed j.low

pub ask_head-asked-requires : goal.ask_head-asked-requires
ask_head-asked-requires c =
    let p = c.requires in
    let j = p.met.reading.judging in
    record { place = p.met.place; draft = p.met.draft; judging = j; worst_is = whole-instr p.is j.headed c.read_arguments-a.ensures }

pub first_waiting-requires : goal.first_waiting-requires
first_waiting-requires c = c.requires.met.reading.judging.tells.waiting.few

pub admit_instruction-verdict-requires : goal.admit_instruction-verdict-requires
admit_instruction-verdict-requires c =
    let p = c.requires in
    let all = (c.first_of-early.ensures ∙ ap (then (verdict_of c.ask_head-asked.result)) (c.first_of.ensures ∙ ap (λ (y : Verdict). then y (verdict_of c.decide-2.result)) c.decide.ensures ∙ ap (then (decided 1 c.read_arguments-a.result.over)) c.decide-2.ensures)) in
    rw c.first_waiting.ensures
    (declarable p.is c.read_arguments-a.ensures c.ask_head-asked.result c.first_of-early.result c.ask_head-asked.ensures all (c.from.ensures ∙ c.line_at.ensures) p.met.reading)

pub finish-requires : goal.finish-requires
finish-requires c = advanceable c.requires.met.reading.judging

pub returns-clause-reads : goal.returns-clause-reads
returns-clause-reads c =
    let p = c.requires in
    let all = (c.first_of-early.ensures ∙ ap (then (verdict_of c.ask_head-asked.result)) (c.first_of.ensures ∙ ap (λ (y : Verdict). then y (verdict_of c.decide-2.result)) c.decide.ensures ∙ ap (then (decided 1 c.read_arguments-a.result.over)) c.decide-2.ensures)) in
    read-instr p.is c.read_arguments-a.ensures c.ask_head-asked.result c.first_of-early.result c.ask_head-asked.ensures all (c.from.ensures ∙ c.line_at.ensures) c.admit_instruction-verdict.result (rw c.first_waiting.ensures at c.admit_instruction-verdict.ensures) (rw c.unchanged.ensures at c.finish.ensures.reads)
