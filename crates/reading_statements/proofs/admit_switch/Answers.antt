-- `reading_statements::admit_switch` meets its contract.
use mathlib.Core.Path.{refl}
use Rattle.reading_statements.proofs.Finding.{asked-last, handed-up}
use Rattle.reading_statements.proofs.admit_switch.Goals as goal

pub returns-in_default : goal.returns-in_default
returns-in_default c = record { asked = handed-up _ _ c.in_default.is; beyond = refl }

pub declare_switch-requires : goal.declare_switch-requires
declare_switch-requires c = c.requires c.in-Ok.is

pub returns : goal.returns
returns c = record { asked = asked-last _ _ c.in-Ok.is c.decide.ensures c.declare_switch.ensures; beyond = c.declare_switch.ensures.beyond_same }
