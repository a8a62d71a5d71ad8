use Rattle.bgp_update.proofs.MpValues.{reads_mp_values}
use Rattle.bgp_update.proofs.DestinationLists.{reads_destinations}
use Rattle.bgp_update.proofs.laws.fields_are_read.Goals as goal

pub returns-clause-destinations : goal.returns-clause-destinations
returns-clause-destinations c = reads_destinations

pub returns-clause-mp_values : goal.returns-clause-mp_values
returns-clause-mp_values c = reads_mp_values
