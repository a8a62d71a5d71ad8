use Rattle.bgp_values.proofs.RoutesValues.{read_list}
use Rattle.bgp_values.proofs.routes_value.destinations_in.Goals as goal

pub returns : goal.returns
returns c = read_list _ _ _ _ c.new.ensures.some c.new.ensures.none
