use Rattle.bgp_json_values.proofs.Chains.{one, then}
use Rattle.bgp_json_values.proofs.items.put_path_family.Goals as goal

pub returns : goal.returns
returns g c =
    then (one c.in_ok-begin_object.ensures) (then c.in_ok-put_family_at.ensures
    (then (one c.in_ok-key.ensures) (then c.in_ok-put_way.ensures (one c.end_object.ensures))))
