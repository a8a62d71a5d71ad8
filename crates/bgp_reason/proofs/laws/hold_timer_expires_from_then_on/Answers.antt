use Rattle.bgp_reason.proofs.AskedTell.{expires_on}
use Rattle.bgp_reason.proofs.laws.hold_timer_expires_from_then_on.Goals as goal

pub returns : goal.returns
returns c = expires_on c.each_owed_want_can_be_met.ensures.met
