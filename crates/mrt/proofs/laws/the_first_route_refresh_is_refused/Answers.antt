use Rattle.mrt.proofs.RefusedRefresh.{first_refresh_is_refused}
use Rattle.mrt.proofs.laws.the_first_route_refresh_is_refused.Goals as goal

pub returns : goal.returns
returns c = first_refresh_is_refused
