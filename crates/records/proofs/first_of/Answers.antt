-- `records::first_of` meets its contract.
use lib.ListN.{length-take}
use Rattle.records.proofs.Contents.{first_fits, first_part}
use native.Mathlib.Omega.{arith}
use Rattle.records.proofs.first_of.Goals as goal

pub slice_bounds-result-end : goal.slice_bounds-result-end
slice_bounds-result-end c =
    let pre = c.requires in
    simp length-take (omega (arith, first_fits (pre) c.first_size.ensures))

pub returns : goal.returns
returns c =
    let pre = c.requires in
    first_part (pre) c.first_size.ensures
