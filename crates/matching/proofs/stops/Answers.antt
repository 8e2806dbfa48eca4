-- `matching::stops` meets its contract.
use Rattle.components.proofs.Fronts.{leading-one}
use Rattle.matching.proofs.stops.Goals as goal

pub of_class-requires : goal.of_class-requires
of_class-requires c = leading-one c.requires.one
