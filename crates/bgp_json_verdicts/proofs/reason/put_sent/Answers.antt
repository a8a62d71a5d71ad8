use Rattle.bgp_json_values.proofs.Chains.{one, then}
use Rattle.bgp_json_values.proofs.Members.{then_members}
use Rattle.bgp_json_verdicts.specs.At.{at_members}
use Rattle.bgp_json_verdicts.proofs.reason.put_sent.Goals as goal

pub returns : goal.returns
returns g c =
    let code = rw c.from.ensures at c.in_ok-put_number.ensures in
    let subcode = rw c.from-2.ensures at c.in_ok-put_number-2.ensures in
    then_members (at_members c.args.at.now) _ c.in_ok-put_at.ensures (then code (then subcode (then (one c.in_ok-key.ensures) c.put_error_name.ensures)))
