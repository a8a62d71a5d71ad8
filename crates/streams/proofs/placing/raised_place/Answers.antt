use Rattle.std.proofs.Common.{refl}
use Rattle.streams.specs.Places.{raised_place}
use Rattle.streams.proofs.placing.raised_place.Goals as goal

pub returns-clause-place : goal.returns-clause-place
unfolding raised_place
returns-clause-place c = refl
