use Rattle.bgp_json_values.proofs.Chains.{one, then}
use Rattle.bgp_json_verdicts.proofs.opening.put_end.Goals as goal

pub returns : goal.returns
returns g c =
    let port = rw c.from.ensures at c.put_number.ensures in
    then (one c.in_ok-key.ensures) (then c.in_ok-put_address.ensures port)
