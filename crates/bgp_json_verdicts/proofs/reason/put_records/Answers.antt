use Rattle.bgp_json_values.proofs.Chains.{then}
use Rattle.bgp_json_verdicts.proofs.reason.put_records.Goals as goal

pub returns : goal.returns
returns g c =
    then (rw c.in-Some.ensures at c.in_ok-put_number.ensures) (then c.in_ok-put_number-2.ensures (then c.in_ok-put_number-3.ensures c.put_number-4.ensures))
