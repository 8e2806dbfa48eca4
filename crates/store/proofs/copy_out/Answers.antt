-- `store::copy_out` meets its contract.
use Rattle.store.proofs.copy_out.Goals as goal

pub returns : goal.returns
returns c =
    let part_of = c.part_of in
    let put = c.put in
    rw (← part_of.ensures.is) put.ensures
