-- `declaring_switches::entry_ref` meets its contract.
use Rattle.declaring_switches.proofs.Texts.{entry-named, none_told, entry-told}
use Rattle.declaring_switches.proofs.entry_ref.Goals as goal

pub text_of-requires : goal.text_of-requires
text_of-requires c = entry-named c.requires c.in-Some.is

pub returns-in-Some : goal.returns-in-Some
returns-in-Some c = entry-told c.in-Some.is c.text_of.ensures

pub returns-in-None : goal.returns-in-None
returns-in-None c = none_told c.in-None.is
