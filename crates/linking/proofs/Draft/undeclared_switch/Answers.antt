-- `Draft::undeclared_switch` meets its contract.
use Rattle.linking.proofs.Undeclared.{switches-found}
use Rattle.linking.proofs.Draft.undeclared_switch.Goals as goal

pub returns : goal.returns
returns c = switches-found c.args.self.now.text.now c.args.self.now.table.cells.now c.args.self.now.names.now c.args.en.now c.code_fault-f.ensures c.code_fault.ensures
