-- `declaring_switches::enter_entry` meets its contract.
use Rattle.declaring_switches.proofs.Texts.{entry-enterable, entry-entered}
use Rattle.declaring_switches.proofs.enter_entry.Goals as goal

pub enter_text_of-requires : goal.enter_text_of-requires
enter_text_of-requires c = entry-enterable c.requires c.in-Some.is

pub returns-in-Some : goal.returns-in-Some
returns-in-Some c = entry-entered c.requires c.in-Some.is c.enter_text_of.ensures
