-- `reading_statements::read_ending` meets its contract.
use Rattle.reading_statements.specs.EndingLaws.{restable, whole-rest, read_ending}
use Rattle.reading_statements.specs.GatheringLaws.{advanceable}
use Rattle.reading_statements.proofs.read_ending.Goals as goal

pub read_rest-rest-requires : goal.read_rest-rest-requires
read_rest-rest-requires c = let j = c.requires.met.reading.judging in restable j.headed j.low

pub section_fault-zero-requires : goal.section_fault-zero-requires
section_fault-zero-requires c = c.read_rest-rest.ensures.stands

pub ask_head-asked-requires : goal.ask_head-asked-requires
ask_head-asked-requires c = let p = c.requires in
    let j = p.met.reading.judging in
    record { place = p.met.place; draft = p.met.draft; judging = j; worst_is = whole-rest p.no_number p.no_switch c.read_rest-rest.ensures j.headed }

pub ending_of-e-requires : goal.ending_of-e-requires
ending_of-e-requires c = let o = c.read_rest-rest.ensures in
    record { nameable = record { stands = o.stands; named = c.requires.met.reading.judging.tells.section.there }; low = o.low }

pub finish-requires : goal.finish-requires
finish-requires c = advanceable c.requires.met.reading.judging

pub returns-clause-reads : goal.returns-clause-reads
returns-clause-reads c = let p = c.requires in
    read_ending p.no_number p.no_switch c.read_rest-rest.ensures c.ask_head-asked.result c.section_fault-zero.ensures c.ask_head-asked.ensures c.ending_of-e.ensures c.finish.ensures.reads
