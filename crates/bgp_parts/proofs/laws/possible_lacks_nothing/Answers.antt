use Rattle.bgp_parts.proofs.PossibleNotifications as lemmas
use Rattle.bgp_parts.proofs.laws.possible_lacks_nothing.Goals as goal

pub returns : goal.returns
returns c = lemmas.possible_lacks_nothing
