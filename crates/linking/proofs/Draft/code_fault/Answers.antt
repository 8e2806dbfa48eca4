-- `Draft::code_fault` meets its contract.
use native.Mathlib.Omega.{arith}
use Rattle.linking.proofs.Faults.{code-first, code-next, code-over}
use Rattle.linking.specs.Lookup.{role_kind, role_named}
use Rattle.linking.proofs.Draft.code_fault.Goals as goal

pub loop-k-init : goal.loop-k-init
loop-k-init c = let a = c.args in code-first a.self.now.text.now a.self.now.names.now a.self.now.table.cells.now (role_kind a.role) (role_named a.role) a.f

pub instruction_fault-g-requires : goal.instruction_fault-g-requires
instruction_fault-g-requires c = omega (arith, c.instructions-k-end.ensures.is, c.loop-k-test.true)

pub loop-k-preserved : goal.loop-k-preserved
loop-k-preserved c = code-next c.args.self.now.text.now c.args.self.now.names.now c.args.self.now.table.cells.now (role_kind c.args.role) (role_named c.args.role) c.args.f c.instructions-k-end.result c.loop-k.k c.instructions-k-end.ensures.is c.loop-k-test.true c.loop-k.invariant c.instruction_fault-g.ensures

pub returns : goal.returns
returns c = code-over c.args.self.now.text.now c.args.self.now.names.now c.args.self.now.table.cells.now (role_kind c.args.role) (role_named c.args.role) c.args.f c.instructions-k-end.result c.loop-k.k c.instructions-k-end.ensures.is c.loop-k-test.false c.loop-k.invariant
