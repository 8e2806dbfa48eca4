-- `check_table::number_stays` meets its contract.
use Rattle.std.proofs.Common.{ap, refl, rules, ◌+◌}
use borrow.Author.Tests.{tests}
use Rattle.check_parts.specs.PassLaws.{passes_all}
use Rattle.packed.specs.Packed.{table_of}
use Rattle.check_parts.specs.Parts.{number_fits}
use mathlib.Core.Bool.{Bool, ◌&&◌}
use Rattle.check_table.specs.Checks.{number_new, number_stays}
use Rattle.check_table.proofs.number_stays.Goals as goal

pub returns : goal.returns
unfolding number_stays number_new
returns c = rw (c.number_fits.ensures) (ap (λ (r : Bool). number_fits (table_of c.args.table.cells.now) c.args.i && r) (passes_all _ (c.args.i + 1) c.args.n _ refl _ _ _ c.all.ensures.ran (λ x b q k. search (rules, tests))))
