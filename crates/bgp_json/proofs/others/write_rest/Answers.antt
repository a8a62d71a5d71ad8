use Rattle.std.proofs.Common.{codes, length, ◌∷◌}
use Rattle.bgp_json_values.proofs.Chains.{then}
use Rattle.bgp_json.proofs.Tokens.{whole}
use Rattle.bgp_json_values.specs.Objects.{number_of}
use Rattle.bgp_json_values.specs.Octets.{octets_members}
use Rattle.bgp_json.proofs.others.write_rest.Goals as goal

pub returns : goal.returns
returns g c =
    let said = (codes "at", number_of c.args.offset) ∷ (codes "count", number_of (length c.args.octets.now)) ∷ octets_members c.args.octets.now in
    whole (codes "rest") said c.in_ok-begin.ensures (then c.in_ok-put_number.ensures (then c.in_ok-put_number-2.ensures c.in_ok-put_octets_member.ensures)) c.end_object.ensures
