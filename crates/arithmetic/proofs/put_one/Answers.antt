-- `arithmetic::put_one` meets its contract.
use Rattle.arithmetic.proofs.Results.{one-replaceable, one-tried}
use Rattle.arithmetic.proofs.put_one.Goals as goal

pub replace-requires : goal.replace-requires
replace-requires c = one-replaceable _ c.put_number.ensures c.requires

pub returns : goal.returns
returns c = one-tried _ c.put_number.ensures c.requires c.replace.ensures
