use Rattle.streams.proofs.Unspelled.{conflict_is_first}
use Rattle.streams.proofs.laws.conflicts_are_the_first.Goals as goal

pub returns : goal.returns
returns c = conflict_is_first
