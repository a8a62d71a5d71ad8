use Rattle.std.proofs.Common.{◌∷◌, [], codes}
use Rattle.bgp_json_values.specs.Texts.{address_json}
use Rattle.bgp_json_values.proofs.Chains.{one, then}
use Rattle.bgp_json_values.proofs.Members.{then_members}
use Rattle.bgp_json_verdicts.specs.At.{place_members}
use Rattle.bgp_json_verdicts.specs.Objects.{text_json}
use Rattle.bgp_json_verdicts.proofs.reason.put_record.Goals as goal

pub returns : goal.returns
returns g c =
    let said = (codes "address", address_json c.args.local) ∷ (codes "deed", text_json c.args.deed.now) ∷ [] in
    then_members (place_members c.args.place.now) said c.in_ok-put_place.ensures
    (then (one c.in_ok-key.ensures) (then c.in_ok-put_address.ensures c.put_octets_text.ensures))
