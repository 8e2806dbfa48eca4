-- `macro_changes::find_parameter` meets its contract.
use native.Mathlib.Omega.{arith}
use borrow.Author.Tests.{tests}
use Rattle.std.proofs.Common.{None, ◌≡◌, rules}
use Rattle.std.proofs.lemmas.Iterator.{serves_from_Range}
use Rattle.macro_changes.proofs.Searching.{none-found, found-run}
use Rattle.macro_changes.proofs.find_parameter.Goals as goal

pub returns-in_err-p : goal.returns-in_err-p
returns-in_err-p c = let e : c.from_residual.result ≡ None = search rules in rw e (none-found c.args.coded.now.text.now c.args.coded.now.code.now c.args.name.now c.in_err-p.was)

pub find-requires-clause-callable : goal.find-requires-clause-callable
find-requires-clause-callable c = let room = rw c.in_ok-p.was at c.requires in
    serves_from_Range (λ x q k. search (rules, tests)) (λ x a b y e. omega (arith, e, b, room))

pub returns : goal.returns
returns c = let a = c.args in
    rw c.in_ok-p.was (found-run a.coded.now.text.now a.coded.now.code.now c.in_ok-p.p a.name.now _ _ _ _ c.find.ensures.ran (λ x b q k. search (rules, tests)))
