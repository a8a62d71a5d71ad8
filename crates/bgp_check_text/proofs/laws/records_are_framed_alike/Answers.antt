use Rattle.bgp_check_text.proofs.FramedAlike.{framed_alike}
use Rattle.bgp_check_text.proofs.laws.records_are_framed_alike.Goals as goal

pub returns : goal.returns
returns c = framed_alike
