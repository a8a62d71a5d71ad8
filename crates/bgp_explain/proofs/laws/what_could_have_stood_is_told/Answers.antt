use Rattle.bgp_explain.proofs.Standing.{could_have_stood}
use Rattle.bgp_explain.proofs.laws.what_could_have_stood_is_told.Goals as goal

pub returns : goal.returns
returns c = could_have_stood c.each_no_has_a_reason.ensures.something
