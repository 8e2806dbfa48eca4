-- `check_memory::Memory::laid` meets its contract.
use mathlib.Core.Path.{refl, sym, ◌∙◌}
use Rattle.check_memory.proofs.Steps.{readable, roomy}
use Rattle.check_memory.proofs.Memory.laid.Goals as goal

pub is_laid-requires : goal.is_laid-requires
is_laid-requires c = record { long = c.requires; is = c.starts_of-end.ensures.ends }

pub returns-then-not-is_laid : goal.returns-then-not-is_laid
returns-then-not-is_laid c = rw (sym c.is_laid.ensures ∙ c.if-not-is_laid.true) refl

pub invariant_of-result : goal.invariant_of-result
invariant_of-result c = readable (roomy c.args.cells.now c.is_laid.ensures c.if-not-is_laid.false c.requires) c.starts_of-end.ensures

pub returns : goal.returns
returns c = rw (sym c.is_laid.ensures ∙ c.if-not-is_laid.false) refl
