-- `Draft::instruction_fault` meets its contract.
use native.Mathlib.Omega.{arith}
use mathlib.Core.Path.{◌≡◌, sym, ◌∙◌}
use Rattle.linking.proofs.Uses.{instr-other, arguments-next, instr-noted}
use Rattle.linking.specs.Lookup.{role_kind, role_named}
use Rattle.linking.proofs.Draft.instruction_fault.Goals as goal

pub operator-requires : goal.operator-requires
operator-requires c = omega (arith, c.requires, c.args.self.now.bounded.code_most)

pub unwrap-operator-requires : goal.unwrap-operator-requires
unwrap-operator-requires c =
    let r = c.args.self.now.bounded.operators c.args.k c.requires in
    c.try_from.ensures.some (omega (arith, r.0, c.operator.ensures.is)) (omega (arith, r.1, c.operator.ensures.is))

pub returns-then-not-is_asked : goal.returns-then-not-is_asked
returns-then-not-is_asked c =
    let s = c.args.self.now in
    let n = rw c.unwrap-operator.ensures at c.try_from.ensures.number in
    instr-other s.text.now s.names.now s.table.cells.now (role_kind c.args.role) (role_named c.args.role) c.args.k c.args.f c.requires (n ∙ c.operator.ensures.is) (sym c.is_asked.ensures ∙ c.if-not-is_asked.true)

pub argument_fault-g-requires : goal.argument_fault-g-requires
argument_fault-g-requires c = (c.requires, omega arith)

pub loop-j-preserved : goal.loop-j-preserved
loop-j-preserved c = let s = c.args.self.now in
    arguments-next s.text.now s.names.now s.table.cells.now (role_kind c.args.role) (role_named c.args.role) c.args.k c.args.f c.loop-j.j c.loop-j-test.true c.loop-j.invariant c.argument_fault-g.ensures

pub returns : goal.returns
returns c =
    let s = c.args.self.now in
    let n = rw c.unwrap-operator.ensures at c.try_from.ensures.number in
    let e : c.loop-j.j ≡ 3 = omega (arith, c.loop-j-test.false, c.loop-j.auto) in
    instr-noted s.text.now s.names.now s.table.cells.now (role_kind c.args.role) (role_named c.args.role) c.args.k c.args.f c.requires (n ∙ c.operator.ensures.is) (sym c.is_asked.ensures ∙ c.if-not-is_asked.false) (rw e at c.loop-j.invariant)
