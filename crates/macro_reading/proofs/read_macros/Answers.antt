-- `macro_reading::read_macros` meets its contract.
use Rattle.macro_reading.proofs.Finishing.{bracketed, no-list-section, with_list, without-list}
use Rattle.macro_reading.proofs.read_macros.Goals as goal

pub read_list-requires : goal.read_list-requires
read_list-requires c = bracketed c.requires c.skip_ends.ensures c.read_first-f.ensures c.skip_ends-2.ensures (c.next_open.ensures.some _ c.in-Some.is)

pub returns-in-Some : goal.returns-in-Some
returns-in-Some c = with_list c.requires c.skip_ends.ensures c.read_first-f.ensures c.skip_ends-2.ensures (c.next_open.ensures.some _ c.in-Some.is) c.read_list.ensures

pub read_section-requires : goal.read_section-requires
read_section-requires c = no-list-section c.requires c.skip_ends.ensures c.read_first-f.ensures c.skip_ends-2.ensures

pub returns : goal.returns
returns c = without-list c.requires c.skip_ends.ensures c.read_first-f.ensures c.skip_ends-2.ensures (c.next_open.ensures.none c.in_default.is) c.read_section.ensures
