-- The two attributes that have routes of other families, in words (RFC 4760, 3 and 4).
use Rattle.std.specs.Prelude.{◌++◌, ℕ, List, [], Option, None, Some, codes}
use Rattle.bgp_prefix.specs.declared.family.Family.{Family}
use Rattle.bgp_open.specs.Offer.{afi_of}
use Rattle.bgp_path.specs.declared.path.NextHop.{NextHop}
use Rattle.bgp_names.specs.Families.{family_name}
use Rattle.bgp_text.specs.RouteText.{next_hop_text}
use Rattle.bgp_text.specs.Text.{destinations_text}
use Rattle.bgp_values.specs.RoutesValue.{RoutesValue, unicast, other}
use Rattle.bgp_lines.specs.AttributeLine.{octets_text}

-- a family of unicast routes, SAFI 1
abbrev pub unicast_name : Family → List ℕ
unicast_name family = family_name (afi_of family) 1

-- a next hop, if there is one
unfoldable pub via_text : Option NextHop → List ℕ
via_text None = []
via_text (Some next_hop) = codes " via " ++ next_hop_text next_hop

-- routes, or octets of another family, behind the word of their attribute
unfoldable pub routes_text : RoutesValue → List ℕ
routes_text (unicast family contents) =
    codes " " ++ (unicast_name family ++ (via_text contents.next_hop
    ++ (codes " " ++ destinations_text contents.destinations)))
routes_text (other afi safi octets) = codes " " ++ (family_name afi safi ++ octets_text octets)

unfoldable pub routes_or_octets : Option RoutesValue → List ℕ → List ℕ
routes_or_octets None octets = octets_text octets
routes_or_octets (Some value) octets = routes_text value
