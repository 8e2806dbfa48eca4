-- `records::contents_of` meets its contract.
use mathlib.Core.Path.{◌≡◌}
use Prim.Native.Nat.{◌+◌, ◌-◌}
use native.Mathlib.Omega.{arith}
use Rattle.records.proofs.Steps.{start-room, ends_at, contents-is}
use Rattle.records.proofs.contents_of.Goals as goal

pub two_at-requires : goal.two_at-requires
two_at-requires c = omega (arith, start-room c.requires)

pub slice_bounds-result-end : goal.slice_bounds-result-end
slice_bounds-result-end c = omega (arith, (ends_at c.requires c.two_at.ensures.is).within)

pub returns : goal.returns
returns c =
    let q : 5 + c.two_at.result - 5 ≡ c.two_at.result = omega arith in
    rw q (contents-is c.requires c.two_at.ensures.is)
