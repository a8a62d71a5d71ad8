use Rattle.std.proofs.Common.{codes, ◌++◌, ◌∷◌}
use Rattle.bgp_json_values.proofs.Chains.{then}
use Rattle.bgp_json_values.proofs.Members.{then_members}
use Rattle.bgp_json.proofs.Tokens.{whole}
use Rattle.bgp_json_values.specs.Objects.{number_of}
use Rattle.bgp_json.specs.Others.{octet_members, refusal_members}
use Rattle.bgp_json.proofs.others.write_recording.Goals as goal

pub returns : goal.returns
returns g c =
    let refusal = refusal_members (codes "recording") c.args.number c.args.name.now in
    let at = (codes "packet", number_of c.args.packet) ∷ octet_members c.args.octet in
    let put = then_members refusal at c.in_ok-put_refusal.ensures (then c.in_ok-put_number.ensures c.in_ok-put_octet.ensures) in
    whole (codes "refused") (refusal ++ at) c.in_ok-begin.ensures put c.end_object.ensures
