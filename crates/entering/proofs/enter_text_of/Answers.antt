-- `entering::enter_text_of` meets its contract.
use borrow.Author.Rules.{rules}
use lib.ListN.{length-take}
use mathlib.Core.Path.{refl}
use native.Mathlib.Omega.{arith}
use Rattle.entering.proofs.Adding.{put-long, text_small, text-entered, text-fits, text-addable}
use Rattle.entering.proofs.enter_text_of.Goals as goal

pub put_text-n-requires : goal.put_text-n-requires
put_text-n-requires c = text-fits c.requires (search rules)

pub returns-then-n-lt2 : goal.returns-then-n-lt2
returns-then-n-lt2 c = record { place = tt; enters = λ i t h. text_small i t h c.put_text-n.ensures c.if-n-lt2.true _ }

pub slice_bounds-word-end : goal.slice_bounds-word-end
slice_bounds-word-end c = omega (arith, put-long c.put_text-n.ensures)

pub slice_bounds-add_text-end : goal.slice_bounds-add_text-end
slice_bounds-add_text-end c = simp length-take (omega (arith, put-long c.put_text-n.ensures))

pub add_text-requires : goal.add_text-requires
add_text-requires c = text-addable c.requires c.put_text-n.ensures refl

pub returns-then-add_text : goal.returns-then-add_text
returns-then-add_text c = record { place = tt; enters = λ i t h. text-entered i t h c.put_text-n.ensures c.if-n-lt2.false (rw c.if-add_text.true at c.add_text.ensures) }

pub returns : goal.returns
returns c = record { place = refl; enters = λ i t h. text-entered i t h c.put_text-n.ensures c.if-n-lt2.false (rw c.if-add_text.false at c.add_text.ensures) }
