use Rattle.std.proofs.Common.{◌∷◌, codes}
use Rattle.bgp_names.specs.Attributes.{attribute_names}
use Rattle.bgp_json_values.specs.Objects.{number_of}
use Rattle.bgp_json_values.specs.Octets.{octets_members}
use Rattle.bgp_json_values.specs.Texts.{name_json}
use Rattle.bgp_json_values.proofs.Chains.{one, then}
use Rattle.bgp_json_values.proofs.Members.{braced}
use Rattle.bgp_json_values.proofs.attributes.put_unread.Goals as goal

pub returns : goal.returns
returns g c =
    braced ((codes "type", number_of c.args.kind) ∷ (codes "name", name_json (codes "attribute ") attribute_names c.args.kind) ∷ (codes "flags", number_of c.args.flags) ∷ octets_members c.args.octets.now)
    (then c.in_ok-put_head.ensures (then (one c.in_ok-u8.ensures) c.in_ok-put_octets_member.ensures)) c.end_object.ensures
