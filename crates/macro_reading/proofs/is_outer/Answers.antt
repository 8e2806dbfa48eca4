-- `macro_reading::is_outer` meets its contract.
use Rattle.macro_reading.proofs.Ending.{outer-is}
use Rattle.macro_reading.proofs.is_outer.Goals as goal

pub returns : goal.returns
returns c = λ s. rw (c.is_mark.ensures s, c.is_bracket.ensures, c.is_mark-2.ensures s, c.is_some.ensures) (outer-is s c.args.t)
