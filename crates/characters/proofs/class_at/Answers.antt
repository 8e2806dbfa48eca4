-- `characters::class_at` meets its contract: each entry of the constant is the class of the character of its rank.
use Rattle.std.proofs.Common.{sym, ap}
use Rattle.characters.specs.Characters.{byte_of, class_of}
use Rattle.characters.proofs.Tables.{class_by-rank, past}
use Rattle.characters.proofs.class_at.Goals as goal

pub returns-then-r-eq0 : goal.returns-then-r-eq0
returns-then-r-eq0 c = ap (λ r. class_of (byte_of r)) (sym c.if-r-eq0.true)

pub returns-then-r-gt-COUNT : goal.returns-then-r-gt-COUNT
returns-then-r-gt-COUNT c = ap class_of (sym (past c.args.r c.if-r-gt-COUNT.true))

pub returns : goal.returns
returns c = class_by-rank c.args.r c.if-r-eq0.false c.if-r-gt-COUNT.false
