-- `Draft::code_fault` meets its contract.
use Rattle.linking.proofs.Faults.{CodeGoing}
use Rattle.linking.specs.Lookup.{role_kind, role_named}
use Rattle.linking.proofs.Draft.code_fault.Given as goal

abbrev pub invariant-loop-k : goal.invariant-loop-k
invariant-loop-k l = CodeGoing l.fn.self.text.now l.fn.self.names.now l.fn.self.table.cells.now (role_kind l.fn.role) (role_named l.fn.role) l.initial.g l.k l.g
