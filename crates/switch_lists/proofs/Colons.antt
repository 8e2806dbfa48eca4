-- The colon of the item before.
use Rattle.std.proofs.Common.{◌≡◌, refl, Bool, true, false, ℕ, Option, None, Some, []}
use Rattle.std.proofs.Math.Bool.{cond}
use Rattle.std.specs.Option.{option_to_list}
use Rattle.statements.specs.StatementAt.{fault_of}
use Rattle.syntax.specs.Verdict.{lowest}

pub left_fault : (c : Bool) (o : Option ℕ) → cond c o None ≡ fault_of (cond c (option_to_list o) [])
unfolding lowest
left_fault false o = refl
left_fault true None = refl
left_fault true (Some p) = refl
