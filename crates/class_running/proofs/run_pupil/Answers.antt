-- `class_running::run_pupil` meets its contract.
use Rattle.class_running.proofs.Seating.{refused-told, runnable, showable, answered}
use mathlib.Core.Path.{refl}
use Rattle.class_running.proofs.run_pupil.Goals as goal

pub returns-then-not-are_inputs : goal.returns-then-not-are_inputs
returns-then-not-are_inputs c = refused-told c.requires c.args.input.now c.args.budget c.are_inputs.ensures (c.if-not-are_inputs.true)

pub run-ran-requires : goal.run-ran-requires
run-ran-requires c = runnable c.requires c.args.input.now c.args.budget c.args.state.now c.are_inputs.ensures (c.if-not-are_inputs.false) refl c.start.ensures

pub show-length-requires : goal.show-length-requires
show-length-requires c = showable c.requires c.args.input.now c.args.budget c.args.state.now c.are_inputs.ensures (c.if-not-are_inputs.false) refl c.start.ensures c.run-ran.ensures

pub returns : goal.returns
returns c = answered c.requires c.args.input.now c.args.budget c.args.state.now c.are_inputs.ensures (c.if-not-are_inputs.false) refl c.start.ensures c.run-ran.ensures c.show-length.ensures
