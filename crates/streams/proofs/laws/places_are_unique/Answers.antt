use Rattle.streams.proofs.Congruent.{only_place}
use Rattle.streams.proofs.laws.places_are_unique.Goals as goal

pub returns : goal.returns
returns c = only_place
