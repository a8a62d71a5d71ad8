use Rattle.std.proofs.Common.{◌≡◌, ◌∙◌, ◌++◌, ◌∷◌, [], ℕ, List, Option, None, Some, ap, append_assoc, bytes_eq, sym}
use Rattle.std.specs.Borrow.{Bor}
use Rattle.bgp_open.specs.Offer.{afi_of}
use Rattle.bgp_values.specs.Destination.{Destination}
use Rattle.bgp_json_values.specs.Fronts.{IsAfter}
use Rattle.bgp_json_values.specs.ItemJson.{family_members}
use Rattle.bgp_json_values.specs.Left.{are_left}
use Rattle.bgp_json_values.specs.RoutesJson.{destinations_json, hop_members, spelled_destinations, spelled_next_hop, spelled_numbers}
use Rattle.bgp_json_values.proofs.Chains.{adding, one, then as and_then}
use Rattle.bgp_json_values.proofs.FrontsCompared.{by_rest, differ}
use Rattle.bgp_json_values.proofs.Members.{member, object, then_members}
use Rattle.bgp_json_values.proofs.routes.put_plain_unicast.Goals as goal

-- octets are compared from their front on
compared : (numbers hop : List ℕ) (ds : List Destination) (octets : List ℕ) (behind : Option (Bor (List ℕ))) → IsAfter (numbers ++ hop) octets behind
    → are_left behind ds ≡ bytes_eq (numbers ++ (hop ++ spelled_destinations ds)) octets
compared numbers hop ds octets None none =
    differ (numbers ++ hop) (spelled_destinations ds) octets none
    ∙ ap (λ (spelled : List ℕ). bytes_eq spelled octets) (append_assoc numbers hop (spelled_destinations ds))
compared numbers hop ds octets (Some rest) parts =
    sym (by_rest (numbers ++ hop) (spelled_destinations ds) octets rest.now parts)
    ∙ ap (λ (spelled : List ℕ). bytes_eq spelled octets) (append_assoc numbers hop (spelled_destinations ds))

pub returns : goal.returns
returns g c =
    let numbers = spelled_numbers (afi_of c.args.family) 1 in
    let octets = c.args.octets.now in
    let ds = c.args.destinations in
    let hop = hop_members c.args.next_hop in
    let listed = (c.args.name.now, destinations_json ds) ∷ [] in
    let family = rw c.afi_of.ensures at c.in_ok-put_family.ensures in
    let put = member c.args.name.now (destinations_json ds) c.in_ok-key-2.ensures (adding c.in_ok-is_spelled.ensures.tokens c.in_ok-is_spelled.ensures.before) in
    let inside = and_then family (then_members hop listed c.in_ok-put_hop_member.ensures put) in
    let value = object (family_members (afi_of c.args.family) 1 ++ (hop ++ listed)) c.in_ok-begin_object.ensures inside c.in_ok-end_object.ensures in
    let decided = c.in_ok-is_spelled.ensures.spelled ∙ compared numbers (spelled_next_hop c.args.next_hop) ds octets c.after_head-behind.result c.after_head-behind.ensures in
    let hidden = rw decided at c.put_unless.ensures in
    and_then (one c.in_ok-key.ensures) (and_then value hidden)
