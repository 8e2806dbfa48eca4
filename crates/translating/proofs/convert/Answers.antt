-- `translating::convert` meets its contract.
use mathlib.Core.Path.{sym, ◌∙◌}
use Rattle.translating.proofs.Outcomes.{long-gives, untaken-gives}
use Rattle.translating.proofs.convert.Goals as goal

pub returns-then-text-gt-TEXT : goal.returns-then-text-gt-TEXT
returns-then-text-gt-TEXT c = long-gives c.args.text.now c.args.out.now c.if-text-gt-TEXT.true

pub returns-then-not-is_taken : goal.returns-then-not-is_taken
returns-then-not-is_taken c = untaken-gives c.args.text.now c.args.out.now (sym c.is_taken.ensures ∙ c.if-not-is_taken.true)

pub turn-requires : goal.turn-requires
turn-requires c = sym c.is_taken.ensures ∙ c.if-not-is_taken.false
