use Rattle.bgp_speaker.proofs.ConnectionHeard.{each_heard_on}
use Rattle.bgp_speaker.proofs.laws.each_connection_is_heard.Goals as goal

pub returns : goal.returns
returns c = each_heard_on
