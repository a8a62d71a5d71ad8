use Rattle.bgp_json_values.proofs.Chains.{one, then}
use Rattle.bgp_json_verdicts.proofs.reason.put_state.Goals as goal

pub returns : goal.returns
returns g c =
    let name = rw (c.name_of_state.ensures, c.from.ensures, c.number-number.ensures) at c.put_name.ensures in
    then (one c.in_ok-key.ensures) name
