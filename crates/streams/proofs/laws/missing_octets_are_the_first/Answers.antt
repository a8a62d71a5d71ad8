use Rattle.streams.proofs.Unspelled.{missing_is_first}
use Rattle.streams.proofs.laws.missing_octets_are_the_first.Goals as goal

pub returns : goal.returns
returns c = missing_is_first
