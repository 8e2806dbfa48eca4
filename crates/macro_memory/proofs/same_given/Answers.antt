-- `macro_memory::same_given` meets its contract.
use Rattle.std.proofs.Common.{sym, ap, ◌∙◌}
use Rattle.macro_values.specs.Wrote.{size_of}
use Rattle.macro_memory.specs.SameLaws.{values_cut}
use Rattle.macro_memory.proofs.same_given.Goals as goal

pub returns : goal.returns
returns c = λ z. values_cut _ _ _ _ _ c.nothing.result c.write_given-first.result c.write_given-both.result _ _ (ap size_of c.nothing.ensures) c.write_given-first.ensures c.write_given-both.ensures c.in-Some.is c.in-Some-count.is (sym z ∙ c.eq.ensures)
