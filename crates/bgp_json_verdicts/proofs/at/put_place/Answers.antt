use Rattle.std.proofs.Common.{codes}
use Rattle.bgp_json_values.specs.Times.{time_members}
use Rattle.bgp_json_values.proofs.Chains.{then}
use Rattle.bgp_json_values.proofs.Members.{then_members}
use Rattle.bgp_json_verdicts.specs.At.{number_members}
use Rattle.bgp_json_verdicts.proofs.at.put_place.Goals as goal

pub returns : goal.returns
returns g c =
    let place = c.args.place.now in
    then c.in_ok-put_number.ensures
    (then_members (number_members (codes "packet") place.packet) (time_members place.second place.micro) c.in_ok-put_number_if.ensures c.put_time.ensures)
