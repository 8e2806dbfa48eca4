-- The faults of calls: none, and those of two stretches.
use Rattle.std.specs.Prelude.{None}
use Rattle.statements.specs.Faults.{lower}
use Rattle.macro_code.specs.declared.faults.Faults.{Faults}

abbrev pub none_of : Faults
none_of = record { unknown = None; uneven = None }

abbrev pub both_of : Faults → Faults → Faults
both_of a b = record { unknown = lower a.unknown b.unknown; uneven = lower a.uneven b.uneven }
