-- `macro_calls::Hinted::is_single` meets its contract.
use Rattle.std.proofs.Common.{arith, rules}
use Rattle.macro_calls.proofs.Seeking.{hinted}
use Rattle.macro_calls.proofs.Hinted.is_single.Goals as goal

pub returns-then-unwrap_or : goal.returns-then-unwrap_or
returns-then-unwrap_or c = let x = c.args.self.now.listed in
    λ z. hinted x.coded.text.now x.coded.code.now x.firsts.now c.args.name.now c.args.self.now.singles_are c.args.hint (omega (arith, c.in-Some.ensures)) (search rules) (search rules) c.has_name.ensures z
