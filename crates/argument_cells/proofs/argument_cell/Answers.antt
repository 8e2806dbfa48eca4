-- `argument_cells::argument_cell` meets its contract.
use native.Mathlib.Omega.{arith}
use Rattle.argument_cells.proofs.Arguing.{numbers-counted, text-asked, nothing-cell, text-cell}
use Rattle.argument_cells.proofs.argument_cell.Goals as goal

pub returns-in-Nothing : goal.returns-in-Nothing
returns-in-Nothing c = nothing-cell c.in-Nothing.is

pub cell-requires-in-Text : goal.cell-requires-in-Text
cell-requires-in-Text c = let t = text-asked c.requires c.in-Text.is in omega (arith, c.number-in-Text.ensures, (c.text_of.ensures t.chars t.names).most)

pub number-requires-in-Text : goal.number-requires-in-Text
number-requires-in-Text c = let t = text-asked c.requires c.in-Text.is in omega (arith, (c.text_of.ensures t.chars t.names).most)

pub number_ref-requires : goal.number_ref-requires
number_ref-requires c = numbers-counted c.requires.held

pub returns-in-Text : goal.returns-in-Text
returns-in-Text c = text-cell c.in-Text.is c.text_of.ensures (rw c.number-in-Text.ensures at c.cell-in-Text.ensures.0)
