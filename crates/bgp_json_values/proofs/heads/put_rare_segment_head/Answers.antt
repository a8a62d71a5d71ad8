use Rattle.bgp_json_values.proofs.Chains.{one, then}
use Rattle.bgp_json_values.proofs.heads.put_rare_segment_head.Goals as goal

pub returns : goal.returns
returns g c =
    then (one c.in_ok-begin_object.ensures) (then (one c.in_ok-key.ensures) (then c.in_ok-put_segment_name.ensures (one c.key-2.ensures)))
