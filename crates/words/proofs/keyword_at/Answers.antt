-- `words::keyword_at` meets its contract: the five words of a section and its switches, then the instructions.
use native.Mathlib.Omega.{arith}
use Rattle.words.proofs.KeywordLaws.{keyword-instr}
use Rattle.words.proofs.keyword_at.Goals as goal

pub returns-in_default : goal.returns-in_default
returns-in_default c = keyword-instr c.args.j (omega arith) c.requires (rw c.unwrap.ensures at c.try_from.ensures.number)
