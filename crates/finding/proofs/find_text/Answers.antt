-- `finding::find_text` meets its contract.
use native.Mathlib.Omega.{arith}
use borrow.Author.Tests.{tests}
use Rattle.std.proofs.Common.{rules}
use Rattle.std.proofs.lemmas.Iterator.{serves_from_Range}
use Rattle.table.proofs.Keys.{first_hit}
use Rattle.finding.proofs.Found.{text_hit, text-located}
use Rattle.finding.proofs.find_text.Goals as goal

pub find-requires-clause-callable : goal.find-requires-clause-callable
find-requires-clause-callable c = serves_from_Range (λ x q k. search (rules, tests)) (λ x a b y e. omega (arith, e, b, c.texts.ensures.is, c.requires.most))

pub returns : goal.returns
returns c =
    text-located c.args.table.cells.now c.args.word.now _ c.texts.ensures.is (omega (arith, c.texts.ensures.is, c.requires.most))
    (first_hit (text_hit c.args.table.cells.now c.args.word.now) _ _ _ _ c.find.ensures.ran (λ x b q k. search (rules, tests)))
