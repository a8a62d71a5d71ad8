use Rattle.std.proofs.Common.{codes, ◌∷◌, []}
use Rattle.json.specs.Json.{string}
use Rattle.bgp_json_values.specs.Objects.{number_of}
use Rattle.bgp_json_values.proofs.Chains.{then}
use Rattle.bgp_json_values.proofs.Members.{member, object}
use Rattle.bgp_import.specs.Refusals.{refusal_name, refusal_number, refusal_packet}
use Rattle.bgp_list.specs.ConnectionJson.{refusal_json}
use Rattle.bgp_list.proofs.connection_json.put_refused_member.Goals as goal

pub returns : goal.returns
returns g c =
    let refusal = c.args.refusal in
    let members = (codes "number", number_of (refusal_number refusal)) ∷ (codes "name", string (refusal_name refusal)) ∷ (codes "packet", number_of (refusal_packet refusal)) ∷ [] in
    let number = rw (c.from.ensures, c.number.ensures) at c.in_ok-put_number.ensures in
    let name = rw c.name.ensures at c.in_ok-put_text.ensures in
    let packet = rw c.packet.ensures at c.in_ok-put_number-2.ensures in
    member (codes "refused") (refusal_json refusal) c.in_ok-key.ensures
    (object members c.in_ok-begin_object.ensures (then number (then name packet)) c.end_object.ensures)
