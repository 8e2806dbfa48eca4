-- `decimals::width` meets its contract.
use Rattle.decimals.proofs.Digits.{width_none, width_some}
use Rattle.decimals.proofs.width.Goals as goal

pub returns-in-Some : goal.returns-in-Some
returns-in-Some c =
    let e = c.in-Some.ensures in
    width_some c.args.n c.in-Some.k c.requires e.power_le e.next_power_gt

pub returns-in-None : goal.returns-in-None
returns-in-None c = width_none c.args.n c.in-None.ensures.none
