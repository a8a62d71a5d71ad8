use Rattle.std.proofs.Common.{codes, ◌++◌, sym, ap}
use Rattle.bgp_json_values.proofs.Members.{then_members}
use Rattle.bgp_json.proofs.Tokens.{whole}
use Rattle.bgp_open.specs.Open.{OpenFields, parameters_of}
use Rattle.bgp_json.specs.MessageJson.{are_parameters_spelled, octets_unless, open_members}
use Rattle.bgp_json.specs.Place.{place_members}
use Rattle.bgp_json.proofs.open.write_open.Goals as goal

pub returns : goal.returns
returns g c =
    let place = place_members c.args.place in
    let said = open_members c.args.message.now in
    let capabilities = ap (λ (fields : OpenFields). fields.capabilities) c.requires.says in
    let hidden = octets_unless (are_parameters_spelled c.args.message.now.capabilities (parameters_of c.args.octets.now)) c.args.octets.now in
    let put_hidden = rw (c.is_spelled.ensures, sym capabilities) at c.in_ok-put_unless.ensures in
    let put = then_members place (said ++ hidden) c.in_ok-put_place.ensures (then_members said hidden c.in_ok-put_fields.ensures put_hidden) in
    whole (codes "open") (place ++ (said ++ hidden)) c.in_ok-begin.ensures put c.end_object.ensures
