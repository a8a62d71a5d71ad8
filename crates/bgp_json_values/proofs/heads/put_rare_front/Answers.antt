use Rattle.bgp_json_values.proofs.Chains.{one, then}
use Rattle.bgp_json_values.proofs.heads.put_rare_front.Goals as goal

pub returns : goal.returns
returns g c =
    then c.in_ok-put_rare_head.ensures (then (one c.in_ok-u8.ensures) (then c.in_ok-put_width.ensures (one c.key.ensures)))
