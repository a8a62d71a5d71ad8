use Rattle.bgp_path.proofs.Lead.{one_lead}
use Rattle.bgp_path.proofs.laws.one_leading_part.Goals as goal

pub returns : goal.returns
returns c = one_lead
