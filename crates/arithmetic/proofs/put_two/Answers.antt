-- `arithmetic::put_two` meets its contract.
use Rattle.arithmetic.proofs.Results.{two-replaceable, two-tried}
use Rattle.arithmetic.proofs.put_two.Goals as goal

pub replace-requires : goal.replace-requires
replace-requires c = two-replaceable _ c.put_number.ensures c.put_number-2.ensures c.requires

pub returns : goal.returns
returns c = two-tried _ c.put_number.ensures c.put_number-2.ensures c.requires c.replace.ensures
