-- `matching::put_first` meets its contract.
use Rattle.matching.proofs.Firsts.{first-none, first-room, first-put}
use Rattle.matching.proofs.put_first.Goals as goal

pub returns-then-x-eq0 : goal.returns-then-x-eq0
returns-then-x-eq0 c =
    let a = c.args in
    first-none a.out.now a.n a.x.now c.if-x-eq0.true

pub bounds-out-n : goal.bounds-out-n
bounds-out-n c = first-room c.args.out.now (c.requires) c.if-x-eq0.false

pub returns : goal.returns
returns c = first-put c.args.out.now (c.requires) c.if-x-eq0.false
