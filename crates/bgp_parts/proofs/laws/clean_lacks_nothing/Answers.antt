use Rattle.bgp_parts.proofs.CleanUpdates as lemmas
use Rattle.bgp_parts.proofs.laws.clean_lacks_nothing.Goals as goal

pub returns : goal.returns
returns c = lemmas.clean_lacks_nothing
