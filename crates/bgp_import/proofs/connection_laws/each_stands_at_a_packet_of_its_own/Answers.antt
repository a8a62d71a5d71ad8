use Rattle.bgp_import.proofs.Alone.{connections_alone, none_at_refusal, refusals_alone}
use Rattle.bgp_import.proofs.connection_laws.each_stands_at_a_packet_of_its_own.Goals as goal

pub returns-clause-connections : goal.returns-clause-connections
returns-clause-connections c = connections_alone

pub returns-clause-refusals : goal.returns-clause-refusals
returns-clause-refusals c = refusals_alone

pub returns-clause-neither : goal.returns-clause-neither
returns-clause-neither c = none_at_refusal
