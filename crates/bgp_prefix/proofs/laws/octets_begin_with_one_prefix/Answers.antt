use Rattle.bgp_prefix.proofs.OneSpelling.{one_spelling}
use Rattle.bgp_prefix.proofs.laws.octets_begin_with_one_prefix.Goals as goal

pub returns : goal.returns
returns c = one_spelling
