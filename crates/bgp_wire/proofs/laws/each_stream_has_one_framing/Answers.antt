use Rattle.bgp_wire.proofs.EachFraming.{each_framing}
use Rattle.bgp_wire.proofs.OneFraming.{one_framing}
use Rattle.bgp_wire.proofs.laws.each_stream_has_one_framing.Goals as goal

pub returns-clause-each : goal.returns-clause-each
returns-clause-each c = each_framing

pub returns-clause-one : goal.returns-clause-one
returns-clause-one c = one_framing
