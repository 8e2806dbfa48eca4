-- `argument_cells::text_of` meets its contract.
use borrow.Author.Rules.{rules}
use lib.ListN.{length-take}
use native.Mathlib.Omega.{arith}
use Rattle.entering.proofs.Adding.{put-long}
use Rattle.argument_cells.proofs.Arguing.{texts-counted, named-fits, named-told}
use Rattle.argument_cells.proofs.text_of.Goals as goal

pub put_text-n-requires : goal.put_text-n-requires
put_text-n-requires c = named-fits c.requires (search rules)

pub slice_bounds-word-end : goal.slice_bounds-word-end
slice_bounds-word-end c = omega (arith, put-long c.put_text-n.ensures)

pub slice_bounds-text_ref-end : goal.slice_bounds-text_ref-end
slice_bounds-text_ref-end c = simp length-take (omega (arith, put-long c.put_text-n.ensures))

pub text_ref-requires : goal.text_ref-requires
text_ref-requires c = texts-counted c.requires.held

pub returns : goal.returns
returns c = named-told c.put_text-n.ensures c.text_ref.ensures
