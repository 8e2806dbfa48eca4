-- `Draft::undeclared_label` meets its contract.
use Rattle.linking.proofs.Undeclared.{labels-found}
use Rattle.linking.proofs.Draft.undeclared_label.Goals as goal

pub entries_fault-requires : goal.entries_fault-requires
entries_fault-requires c = c.requires

pub returns : goal.returns
returns c = labels-found c.args.self.now.text.now c.args.self.now.table.cells.now c.args.self.now.names.now c.args.en.now c.code_fault-f.ensures c.entries_fault.ensures
