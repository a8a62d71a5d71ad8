use Rattle.std.proofs.Common.{◌++◌, ◌∙◌, List, ℕ, ap, append_assoc, bytes_eq, sym}
use Rattle.bgp_open.specs.Offer.{afi_of}
use Rattle.bgp_json_values.specs.RoutesJson.{spelled_destinations, spelled_next_hop, spelled_numbers}
use Rattle.bgp_json_values.proofs.FrontsCompared.{by_rest, differ}
use Rattle.bgp_json_values.proofs.spelled_routes.is_spelled_unicast.Goals as goal

pub returns-in-None : goal.returns-in-None
returns-in-None c =
    let numbers = spelled_numbers (afi_of c.args.family) 1 in
    let hop = spelled_next_hop c.args.hop in
    let destinations = spelled_destinations c.args.destinations.now in
    let octets = c.args.octets.now in
    differ (numbers ++ hop) destinations octets c.in-None.ensures
    ∙ ap (λ (spelled : List ℕ). bytes_eq spelled octets) (append_assoc numbers hop destinations)

pub returns-in-Some : goal.returns-in-Some
returns-in-Some c =
    let numbers = spelled_numbers (afi_of c.args.family) 1 in
    let hop = spelled_next_hop c.args.hop in
    let destinations = spelled_destinations c.args.destinations.now in
    let octets = c.args.octets.now in
    c.are_spelled.ensures ∙ sym (by_rest (numbers ++ hop) destinations octets c.in-Some.rest.now c.in-Some.ensures)
    ∙ ap (λ (spelled : List ℕ). bytes_eq spelled octets) (append_assoc numbers hop destinations)
