-- `running::run` meets its contract.
use native.Mathlib.Omega.{arith}
use Rattle.running.proofs.Empty.{row-empty, lies}
use Rattle.running.proofs.Loop.{openable, steppable, memory-long, ran_on}
use Rattle.running.proofs.run.Goals as goal

pub invariant_of-bench : goal.invariant_of-bench
invariant_of-bench c =
    let z = c.default-scalars.ensures in
    let places = z.1.0 in
    let rest = z.1.1 in
    let totals = rest.1.1 in
    lies c.new-strings.ensures (row-empty c.default-scalars.result z.0 (places.at 0 0 (omega arith)) (places.at 1 0 (omega arith)) rest.0 rest.1.0 totals.0 totals.1.0 totals.1.1)

pub open-requires : goal.open-requires
open-requires c = openable c.requires

pub run_steps-r-requires : goal.run_steps-r-requires
run_steps-r-requires c = steppable c.requires c.open.ensures

pub write-requires : goal.write-requires
write-requires c = memory-long c.requires

pub returns : goal.returns
returns c = ran_on c.requires c.open.ensures c.run_steps-r.ensures c.write.ensures
