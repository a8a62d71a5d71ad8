use Rattle.bgp_parts.proofs.Withdrawals as lemmas
use Rattle.bgp_parts.proofs.laws.parts_tell_withdrawals.Goals as goal

pub returns : goal.returns
returns c = lemmas.parts_tell_withdrawals
