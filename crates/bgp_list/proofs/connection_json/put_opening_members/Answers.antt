use Rattle.bgp_json_values.proofs.Chains.{then}
use Rattle.bgp_json_values.proofs.Members.{then_members}
use Rattle.bgp_list.specs.ConnectionJson.{ends_members, first_members}
use Rattle.bgp_list.proofs.connection_json.put_opening_members.Goals as goal

pub returns : goal.returns
returns g c =
    then c.in_ok-put_number.ensures
    (then_members (ends_members c.args.session.now c.args.opening) (first_members c.args.opening) c.in_ok-put_ends.ensures c.put_first_members.ensures)
