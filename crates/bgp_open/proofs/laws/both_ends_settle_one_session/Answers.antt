use Rattle.bgp_open.proofs.TwoEnds.{settle_ends}
use Rattle.bgp_open.proofs.laws.both_ends_settle_one_session.Goals as goal

pub returns : goal.returns
returns c = settle_ends
