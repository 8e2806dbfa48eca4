-- `table::Table::find_entry` meets its contract.
use native.Mathlib.Omega.{arith}
use borrow.Author.Tests.{tests}
use Rattle.std.proofs.Common.{rules}
use Rattle.std.proofs.lemmas.Iterator.{serves_from_Range}
use Prim.Native.Nat.{◌+◌}
use Rattle.table.specs.Reads.{Keyed}
use Rattle.table.proofs.Keys.{entry_hit, first_hit, entry_found}
use Rattle.table.proofs.Table.find_entry.Goals as goal

pub find-requires-clause-callable : goal.find-requires-clause-callable
find-requires-clause-callable c =
    serves_from_Range (λ x q k. (search (rules, tests))) (λ x a b y e.
    let k : Keyed c.args.self.cells.now (c.args.first + y.now) = rw e (c.requires.keyed x b) in
    (λ l p n w v u t f g. omega (arith, e, b, c.requires.inside), λ l p n w v u t f g h. k))

pub returns : goal.returns
returns c =
    entry_found c.args.self.cells.now c.args.word.now c.args.first c.args.count _
    (first_hit (entry_hit c.args.self.cells.now c.args.word.now c.args.first c.args.count) _ _ _ _ c.find.ensures.ran (λ x b q k. search (rules, tests)))
