-- `macro_reading::word_cell` meets its contract.
use mathlib.Core.Path.{refl}
use borrow.Author.Tests.{eq-eqb, ne_eqb}
use Rattle.macro_reading.proofs.word_cell.Goals as goal

pub returns-then-k-eq0 : goal.returns-then-k-eq0
returns-then-k-eq0 c = rw (eq-eqb c.args.k 0 c.if-k-eq0.true) refl

pub returns : goal.returns
returns c = rw (ne_eqb c.args.k 0 c.if-k-eq0.false) refl
