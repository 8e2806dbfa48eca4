-- `reading_statements::read_switch` meets its contract.
use native.Mathlib.Omega.{arith}
use mathlib.Core.Path.{refl, ap, ◌∙◌}
use Rattle.statements.specs.Faults.{then, verdict_of}
use Rattle.heads.specs.Heads.{is_by_name}
use Rattle.reading_statements.specs.GatheringLaws.{advanceable}
use Rattle.reading_statements.specs.SwitchReadLaws.{held_most, listable, name-inside, whole-list, declarable-switch, read-switch}
use Rattle.reading_statements.proofs.read_switch.Goals as goal

pub slice_bounds-read_list-count : goal.slice_bounds-read_list-count
slice_bounds-read_list-count c = let r = c.requires.met.reading in omega (arith, c.entries-held.ensures.is, held_most r.tabled)

pub slice_bounds-read_list-start : goal.slice_bounds-read_list-start
slice_bounds-read_list-start c = let r = c.requires.met.reading in omega (arith, c.entries-held.ensures.is, held_most r.tabled)

pub overflow_sub-held : goal.overflow_sub-held
overflow_sub-held c = let r = c.requires.met.reading in omega (arith, c.entries-held.ensures.is, held_most r.tabled)

pub read_list-l-requires : goal.read_list-l-requires
read_list-l-requires c =
    let r = c.requires.met.reading in
    listable r.judging.headed r.judging.low

pub ask_head-asked-requires : goal.ask_head-asked-requires
ask_head-asked-requires c =
    let p = c.requires in
    let j = p.met.reading.judging in
    record { place = p.met.place; draft = p.met.draft; judging = j; worst_is = whole-list p.some (c.is_by_name-named.ensures ∙ ap is_by_name c.keyword.ensures) c.read_list-l.ensures j.headed }

pub first_waiting-requires : goal.first_waiting-requires
first_waiting-requires c = c.requires.met.reading.judging.tells.waiting.few

pub offset_bounds-names-first_waiting : goal.offset_bounds-names-first_waiting
offset_bounds-names-first_waiting c =
    let p = c.requires in
    let j = p.met.reading.judging in
    omega (arith, c.first_waiting.ensures, name-inside p.some (c.is_by_name-named.ensures ∙ ap is_by_name c.keyword.ensures) j)

pub bounds-names-first_waiting : goal.bounds-names-first_waiting
bounds-names-first_waiting c = let p = c.requires in omega (arith, c.first_waiting.ensures, name-inside p.some (c.is_by_name-named.ensures ∙ ap is_by_name c.keyword.ensures) p.met.reading.judging)

pub admit_switch-verdict-requires : goal.admit_switch-verdict-requires
admit_switch-verdict-requires c =
    let p = c.requires in
    let r = p.met.reading in
    declarable-switch p.some (c.is_by_name-named.ensures ∙ ap is_by_name c.keyword.ensures) c.read_list-l.ensures c.ask_head-asked.result c.first_of-early.result c.ask_head-asked.ensures (c.first_of-early.ensures ∙ ap (then (verdict_of c.ask_head-asked.result)) c.decide.ensures) c.entries-held.ensures.is
    (omega (arith, c.entries-held.ensures.is, held_most r.tabled)) (rw c.first_waiting.ensures at c.switch_of-d.ensures) r (omega arith) c.min.ensures

pub finish-requires : goal.finish-requires
finish-requires c = advanceable c.requires.met.reading.judging

pub returns-clause-reads : goal.returns-clause-reads
returns-clause-reads c =
    let p = c.requires in
    let r = p.met.reading in
    λ lines.
    read-switch p.some (c.is_by_name-named.ensures ∙ ap is_by_name c.keyword.ensures) c.read_list-l.ensures c.ask_head-asked.result c.first_of-early.result c.ask_head-asked.ensures (c.first_of-early.ensures ∙ ap (then (verdict_of c.ask_head-asked.result)) c.decide.ensures) c.entries-held.ensures.is
    (omega (arith, c.entries-held.ensures.is, held_most r.tabled)) (rw c.first_waiting.ensures at c.switch_of-d.ensures) c.admit_switch-verdict.result
    c.admit_switch-verdict.ensures _ refl (omega arith) (omega arith) (rw c.unchanged.ensures at c.finish.ensures.reads)
