-- `macro_preparing::answered` meets its contract.
use Rattle.std.proofs.Common.{arith}
use Rattle.macros.proofs.LineLaws.{line-high}
use Rattle.macro_preparing.proofs.answered.Goals as goal

pub map_err-requires : goal.map_err-requires
map_err-requires c = λ e z. ((λ κs l x g u v. c.requires), (λ κs l x g u y. omega (arith, y.ensures, line-high c.args.text.now e.at, c.requires)))
