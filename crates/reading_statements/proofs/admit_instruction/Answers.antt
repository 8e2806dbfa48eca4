-- `reading_statements::admit_instruction` meets its contract.
use mathlib.Core.Path.{refl}
use Rattle.reading_statements.proofs.Finding.{asked-last, handed-up}
use Rattle.reading_statements.proofs.admit_instruction.Goals as goal

pub returns-in_default : goal.returns-in_default
returns-in_default c = record { asked = handed-up _ _ c.in_default.is; beyond = refl }

pub declare_instruction-requires : goal.declare_instruction-requires
declare_instruction-requires c = c.requires c.in-Ok.is

pub returns : goal.returns
returns c =
    let r = c.requires c.in-Ok.is in
    record { asked = asked-last _ _ c.in-Ok.is c.decide.ensures c.declare_instruction.ensures; beyond = (c.declare_instruction.ensures r.next r.values).beyond_same }
