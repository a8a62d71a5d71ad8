use Rattle.std.proofs.Common.{codes, ◌∷◌, []}
use Rattle.bgp_json_values.specs.Objects.{number_of}
use Rattle.bgp_json_values.specs.Times.{time_members}
use Rattle.bgp_json_values.proofs.Members.{then_members}
use Rattle.bgp_list.proofs.connection_json.put_first_members.Goals as goal

pub returns : goal.returns
returns g c =
    let opening = c.args.opening in
    then_members (time_members opening.second opening.micro) ((codes "packet", number_of opening.packet) ∷ []) c.in_ok-put_time.ensures c.put_number.ensures
