use Rattle.std.proofs.Common.{[], sym, subst}
use Rattle.streams.specs.Connections.{connections_of}
use Rattle.streams.specs.Held.{AreEach}
use Rattle.streams.proofs.connections.Connections.new.Goals as goal

pub returns-clause-holds : goal.returns-clause-holds
unfolding connections_of
returns-clause-holds g c = record { each = subst (AreEach []) (sym c.new.ensures.items) tt }
