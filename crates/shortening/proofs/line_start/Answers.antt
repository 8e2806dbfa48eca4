-- `shortening::line_start` meets its contract.
use Rattle.std.proofs.Common.{rules}
use Rattle.shortening.proofs.LastLine.{start-found, start-none}
use Rattle.shortening.proofs.line_start.Goals as goal

pub returns-in-Some : goal.returns-in-Some
returns-in-Some c = start-found c.args.text.now c.args.end c.requires c.in-Some.last (search rules) (search rules) (search rules)

pub returns-in-None : goal.returns-in-None
returns-in-None c = start-none c.args.text.now c.args.end c.requires (search rules)
