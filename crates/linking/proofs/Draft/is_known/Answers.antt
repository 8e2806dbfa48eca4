-- `Draft::is_known` meets its contract.
use native.Mathlib.Omega.{arith}
use mathlib.Core.Bool.{true, false}
use mathlib.Core.Path.{refl}
use Rattle.linking.proofs.Uses.{label-known, switch-known}
use Rattle.linking.proofs.Draft.is_known.Goals as goal

pub label_place-requires : goal.label_place-requires
label_place-requires c = record { most = c.args.self.now.bounded.labels_most }

pub returns-in-Label : goal.returns-in-Label
returns-in-Label c = rw c.in-Label.is (label-known c.args.self.now.text.now c.args.self.now.names.now _ _ true c.args.m refl c.label_place.ensures c.is_some.ensures)

pub returns-in-Named : goal.returns-in-Named
returns-in-Named c = rw c.in-Named.is (switch-known c.args.self.now.text.now c.args.self.now.names.now c.args.self.now.table.cells.now 3 true c.args.m (λ e. omega (arith, e)) c.has_switch.ensures)

pub returns-in-Indexed : goal.returns-in-Indexed
returns-in-Indexed c = rw c.in-Indexed.is (switch-known c.args.self.now.text.now c.args.self.now.names.now c.args.self.now.table.cells.now 3 false c.args.m (λ e. omega (arith, e)) c.has_switch-in-Indexed.ensures)
