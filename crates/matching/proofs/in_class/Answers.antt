-- `matching::in_class` meets its contract.
use Rattle.matching.proofs.Classes.{class_bit-is}
use Rattle.matching.proofs.in_class.Goals as goal

pub returns : goal.returns
returns c = class_bit-is c.args.mask c.args.b c.class_place.result c.class_place.ensures.0
