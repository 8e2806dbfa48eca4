-- `check_calls::ask` meets its contract.
use mathlib.Core.Path.{sym, ◌∙◌, subst}
use lib.Dec.{T}
use Rattle.layout.proofs.TableLaws.{table-facts}
use Rattle.check_calls.proofs.ask.Goals as goal

pub invariant_of-result : goal.invariant_of-result
invariant_of-result c = record { long = (table-facts c.args.lent.table.now (subst T (sym c.if-not-is_table.false ∙ c.is_table.ensures) tt)).long }
