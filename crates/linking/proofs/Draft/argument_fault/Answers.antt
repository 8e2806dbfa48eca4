-- `Draft::argument_fault` meets its contract.
use native.Mathlib.Omega.{arith}
use mathlib.Core.Path.{sym, ◌∙◌}
use Rattle.std.proofs.Common.{eqb-true}
use Rattle.std.proofs.lemmas.Bool.{eqb-false}
use Rattle.linking.proofs.Uses.{argument-other, argument-noted}
use Rattle.linking.specs.Lookup.{role_kind, role_named}
use Rattle.linking.proofs.Draft.argument_fault.Goals as goal

pub argument_cell-x-requires : goal.argument_cell-x-requires
argument_cell-x-requires c = (omega (arith, c.requires.0, c.args.self.now.bounded.code_most), c.requires.1)

pub returns-then-not-is_in : goal.returns-then-not-is_in
returns-then-not-is_in c =
    let a = c.args in
    argument-other a.self.now.text.now a.self.now.names.now a.self.now.table.cells.now (role_kind a.role) (role_named a.role) a.k a.j a.f _ c.requires.0 c.requires.1 c.argument_cell-x.ensures.is (λ e. eqb-false _ _ (sym c.is_in.ensures ∙ c.if-not-is_in.true) (e ∙ sym c.kind.ensures))

pub returns : goal.returns
returns c = argument-noted c.args.self.now.text.now c.args.self.now.names.now c.args.self.now.table.cells.now (role_kind c.args.role) (role_named c.args.role) c.args.k c.args.j c.args.f _ c.requires.0 c.requires.1 c.argument_cell-x.ensures.is (eqb-true _ _ (sym c.is_in.ensures ∙ c.if-not-is_in.false) ∙ c.kind.ensures) (rw c.value_in-m.ensures at c.is_known.ensures) (rw c.value_in-m.ensures at c.note.ensures)
