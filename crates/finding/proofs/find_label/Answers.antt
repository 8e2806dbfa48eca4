-- `finding::find_label` meets its contract.
use native.Mathlib.Omega.{arith}
use borrow.Author.Tests.{tests}
use Rattle.std.proofs.Common.{rules}
use Rattle.std.proofs.lemmas.Iterator.{serves_from_Range}
use Rattle.table.proofs.Keys.{first_hit}
use Rattle.finding.proofs.Found.{name_hit, name-located}
use Rattle.finding.proofs.find_label.Goals as goal

pub find-requires-clause-callable : goal.find-requires-clause-callable
find-requires-clause-callable c = serves_from_Range (λ x q k. search (rules, tests)) (λ x a b y e. omega (arith, e, b, c.labels.ensures.is, c.requires.most))

pub returns : goal.returns
returns c =
    name-located c.args.table.cells.now c.args.name.now _ c.labels.ensures.is (omega (arith, c.labels.ensures.is, c.requires.most))
    (first_hit (name_hit c.args.table.cells.now c.args.name.now) _ _ _ _ c.find.ensures.ran (λ x b q k. search (rules, tests)))
