use Rattle.bgp_parts.proofs.OwnOpen as lemmas
use Rattle.bgp_parts.proofs.laws.own_open_lacks_nothing.Goals as goal

pub returns : goal.returns
returns c = lemmas.own_open_lacks_nothing
