use Rattle.streams.proofs.Whole.{answered_is_whole}
use Rattle.streams.proofs.laws.answered_connections_are_whole.Goals as goal

pub returns : goal.returns
returns c = answered_is_whole
