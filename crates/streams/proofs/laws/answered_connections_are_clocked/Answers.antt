use Rattle.streams.proofs.Clocked.{answered_is_clocked}
use Rattle.streams.proofs.laws.answered_connections_are_clocked.Goals as goal

pub returns : goal.returns
returns c = answered_is_clocked
