use Rattle.std.proofs.Common.{◌∷◌, codes}
use Rattle.bgp_names.specs.Attributes.{attribute_names}
use Rattle.bgp_json_values.specs.Objects.{number_of}
use Rattle.bgp_json_values.specs.Octets.{value_or_octets}
use Rattle.bgp_json_values.specs.RoutesJson.{routes_json, spelled_routes}
use Rattle.bgp_json_values.specs.Texts.{name_json}
use Rattle.bgp_json_values.proofs.Chains.{one, then}
use Rattle.bgp_json_values.proofs.Members.{braced}
use Rattle.bgp_values.specs.RoutesValue.{unreach_value}
use Rattle.bgp_json_values.proofs.attributes.put_unreach.Goals as goal

pub returns : goal.returns
returns g c =
    let said = value_or_octets (routes_json (codes "withdrawn") c.args.form) spelled_routes (unreach_value c.args.form c.args.octets.now) c.args.octets.now in
    let routes = rw c.of_unreach-value.ensures at c.in_ok-put_routes.ensures in
    braced ((codes "type", number_of 15) ∷ (codes "name", name_json (codes "attribute ") attribute_names 15) ∷ (codes "flags", number_of c.args.flags) ∷ said)
    (then c.in_ok-put_head.ensures (then (one c.in_ok-u8.ensures) routes)) c.end_object.ensures
