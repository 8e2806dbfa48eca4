-- `Draft::instruction_fault` meets its contract.
use Rattle.linking.proofs.Uses.{ArgumentsGoing}
use Rattle.linking.specs.Lookup.{role_kind, role_named}
use Rattle.linking.proofs.Draft.instruction_fault.Given as goal

abbrev pub invariant-loop-j : goal.invariant-loop-j
invariant-loop-j l = ArgumentsGoing l.fn.self.text.now l.fn.self.names.now l.fn.self.table.cells.now (role_kind l.fn.role) (role_named l.fn.role) l.fn.k l.initial.g l.j l.g
