-- `characters::precedes` meets its contract. The invariant: as many characters of both words were met, and what is left of them is ordered as they are.
use mathlib.Core.Path.{◌≡◌}
use Prim.Native.Nat.{◌+◌}
use lib.ListN.{length}
use Rattle.std.specs.Iterator.Adapters.{zip_first, zip_second}
use Rattle.std.specs.Slice.Iter.{iter_rest}
use Rattle.characters.specs.Characters.{precedes}
use Rattle.characters.proofs.precedes.Given as goal

abbrev pub invariant-loop-x : goal.invariant-loop-x
invariant-loop-x l =
    let r = iter_rest (zip_first l.x-iterator) in
    let s = iter_rest (zip_second l.x-iterator) in
    (length l.v + length s ≡ length l.w + length r) × (precedes r s ≡ precedes l.v l.w)
