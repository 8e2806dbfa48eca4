-- The lower of two faults, with none and of three.
use Rattle.std.specs.Prelude.{◌≡◌, refl, Some, None}
use Rattle.std.proofs.Common.{ap, arith}
use Rattle.statements.specs.Faults.{Fault, lower}

pub lower-right : (a : Fault) → lower a None ≡ a
lower-right None = refl
lower-right (Some p) = refl

pub lower-assoc : (a b c : Fault) → lower (lower a b) c ≡ lower a (lower b c)
lower-assoc None b c = refl
lower-assoc (Some p) None c = refl
lower-assoc (Some p) (Some q) None = refl
lower-assoc (Some p) (Some q) (Some r) = ap Some (omega arith)
