-- `class_running::run_class` meets its contract.
use Rattle.class_running.proofs.Sitting.{table-long, no_table, no-fit, classable, all_done}
use mathlib.Core.Path.{refl}
use Rattle.class_running.proofs.run_class.Goals as goal

pub returns-then-not-is_table : goal.returns-then-not-is_table
returns-then-not-is_table c = no_table c.args.table.now c.args.inputs.now c.args.lengths.now c.args.budgets.now c.args.results.now c.args.out.now c.is_table.ensures (c.if-not-is_table.true)

pub returns-then-not-fits : goal.returns-then-not-fits
returns-then-not-fits c = no-fit c.args.table.now c.args.inputs.now c.args.lengths.now c.args.budgets.now c.args.results.now c.args.out.now c.is_table.ensures (c.if-not-is_table.false) c.fits.ensures (c.if-not-fits.true)

pub invariant_of-table : goal.invariant_of-table
invariant_of-table c = record { long = table-long (classable c.args.table.now c.args.inputs.now c.args.lengths.now c.args.budgets.now c.args.results.now c.args.out.now c.is_table.ensures (c.if-not-is_table.false) c.fits.ensures (c.if-not-fits.false) refl) }

pub run_pupils-requires : goal.run_pupils-requires
run_pupils-requires c = classable c.args.table.now c.args.inputs.now c.args.lengths.now c.args.budgets.now c.args.results.now c.args.out.now c.is_table.ensures (c.if-not-is_table.false) c.fits.ensures (c.if-not-fits.false) refl

pub returns : goal.returns
returns c = all_done c.args.table.now c.args.inputs.now c.args.lengths.now c.args.budgets.now c.args.results.now c.args.out.now c.is_table.ensures (c.if-not-is_table.false) c.fits.ensures (c.if-not-fits.false) c.run_pupils.ensures
