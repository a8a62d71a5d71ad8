use Rattle.std.proofs.Common.{codes}
use Rattle.bgp_ended.specs.Values.{ended_value}
use Rattle.bgp_json_values.specs.Objects.{object_of}
use Rattle.bgp_json_values.proofs.Members.{member, object}
use Rattle.bgp_list.specs.Connections.{endpoint_of}
use Rattle.bgp_list.specs.EndedJson.{ended_members}
use Rattle.bgp_list.proofs.ended_json.put_end_member.Goals as goal

pub returns-in_ok-put_ended_members-in-Some : goal.returns-in_ok-put_ended_members-in-Some
returns-in_ok-put_ended_members-in-Some g c =
    let ended = c.in-Some.ended in
    let members = ended_members (endpoint_of ended.by c.args.session.now c.args.opening) (ended_value ended) in
    let inside = rw c.endpoint_of-by.ensures at c.in_ok-put_ended_members-in-Some.ensures in
    rw c.in-Some.is (member (codes "ended") (object_of members) c.in_ok-key-in-Some.ensures (object members c.in_ok-begin_object-in-Some.ensures inside c.end_object.ensures))
