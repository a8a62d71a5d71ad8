use Rattle.streams.proofs.Spelled.{answered_is_spelled}
use Rattle.streams.proofs.laws.answered_streams_are_spelled.Goals as goal

pub returns : goal.returns
returns c = answered_is_spelled
