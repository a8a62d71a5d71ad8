use Rattle.bgp_json_values.proofs.Chains.{one, then}
use Rattle.std.proofs.Common.{◌∷◌, [], codes}
use Rattle.bgp_json_values.specs.Texts.{address_json}
use Rattle.bgp_json_values.specs.Objects.{object_of}
use Rattle.bgp_json_values.proofs.Members.{member, object}
use Rattle.bgp_json_verdicts.proofs.reason.put_ends.Goals as goal

pub returns : goal.returns
returns g c =
    let said = (codes "peer", address_json c.args.peer) ∷ (codes "local", address_json c.args.local) ∷ [] in
    member (codes "first") (object_of said) c.in_ok-key.ensures
    (object said c.in_ok-begin_object.ensures
    (then (one c.in_ok-key-2.ensures) (then c.in_ok-put_address.ensures (then (one c.in_ok-key-3.ensures) c.in_ok-put_address-2.ensures))) c.end_object.ensures)
