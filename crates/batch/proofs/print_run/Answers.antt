-- `batch::print_run` meets its contract.
use mathlib.Core.Path.{refl}
use Rattle.batch.proofs.Lines.{table-long, line-place, end-room, all-printed}
use Rattle.batch.proofs.print_run.Goals as goal

pub invariant_of-line : goal.invariant_of-line
invariant_of-line c = record { long = table-long c.requires c.next.ensures }

pub line-line-requires : goal.line-line-requires
line-line-requires c = line-place c.requires c.next.ensures

pub put_end-requires : goal.put_end-requires
put_end-requires c = end-room c.requires c.next.ensures c.line-line.ensures c.output.ensures refl c.put-a.ensures c.put-b.ensures

pub returns : goal.returns
returns c = all-printed c.requires c.next.ensures c.line-line.ensures c.output.ensures refl c.put-a.ensures c.put-b.ensures c.put_end.ensures
