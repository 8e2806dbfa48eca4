-- `Draft::has_switch` meets its contract.
use native.Mathlib.Omega.{arith}
use borrow.Author.Tests.{tests}
use Rattle.std.proofs.Common.{rules}
use Prim.Native.Nat.{◌<◌}
use Rattle.std.proofs.lemmas.Iterator.{serves_from_Range}
use Rattle.linking.proofs.Switches.{any_below, switch_hit, switch-asked}
use Rattle.linking.proofs.Draft.has_switch.Goals as goal

pub any-requires-clause-callable : goal.any-requires-clause-callable
any-requires-clause-callable c =
    serves_from_Range (λ x q k. search (rules, tests)) (λ x a b. let l : x < 32 = omega (arith, b, c.args.self.now.bounded.switches_most, c.switches.ensures.is) in
    λ z p r n e t u. l)

pub returns : goal.returns
returns c =
    let s = c.args.self.now in
    switch-asked s.text.now s.table.cells.now s.names.now c.args.named c.args.m _ c.switches.ensures.is s.bounded.room
    (any_below (switch_hit s.text.now s.table.cells.now s.names.now c.args.named c.args.m) _ _ _ _ c.any.ensures.ran (λ x b q k. search (rules, tests)))
