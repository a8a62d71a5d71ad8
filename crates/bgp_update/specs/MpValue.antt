-- The values of MP_REACH_NLRI and MP_UNREACH_NLRI (RFC 4760, 3 and 4; RFC 8950, 3).
use Rattle.std.specs.Prelude.{◌≡◌, ◌↔◌, ◌++◌, ℕ, ◌+◌, ◌==◌, Bool, not, nat_lt, List, ◌∷◌}
use Rattle.std.specs.Prelude.{if◌then◌else◌, length, take, drop, slice_index, Option, None, Some}
use Rattle.std.specs.Option.{option_map}
use Rattle.byteorder.specs.Endian.{big_number}
use Rattle.bgp_open.specs.Family.{Family}
use Rattle.bgp_open.specs.Family.TheVariants as families
use Rattle.bgp_open.specs.declared.route_form.RouteForm.{RouteForm}
use Rattle.bgp_attr.specs.NextHop.{NextHop}
use Rattle.bgp_attr.specs.NextHop.TheVariants as hops
use Rattle.bgp_update.specs.declared.destination.Destination.{Destination}
use Rattle.bgp_update.specs.Destinations.{AreDestinations, destinations_of, is_identified}

-- the family of an AFI and a SAFI: unicast is SAFI 1 (RFC 4760, 6)
abbrev pub family_with : ℕ → ℕ → Option Family
family_with afi safi =
    if not (safi == 1) then None
    else (if afi == 1 then Some families.V4 else (if afi == 2 then Some families.V6 else None))

-- the family that a value of at least 3 octets names: AFI 2, SAFI 1
abbrev pub family_in : List ℕ → Option Family
family_in value = family_with (big_number 2 value) (slice_index value 2)

-- an IPv6 next hop: 16 octets, or 32 with a link-local address (RFC 2545, 3)
abbrev pub ipv6_hop_in : List ℕ → Option NextHop
ipv6_hop_in octets =
    if length octets == 16 then Some (hops.V6 (big_number 16 octets))
    else (if length octets == 32
    then Some (hops.V6WithLinkLocal (big_number 16 octets) (big_number 16 (drop 16 octets)))
    else None)

-- the next hop of so many octets: 4 for IPv4, 16 or 32 for IPv6 (RFC 4760, 3; RFC 2545, 3). If IPv4
-- routes may have IPv6 next hops, IPv4 has 4, 16 or 32 (RFC 8950, 3 and 4). 24 or 48 octets are the
-- next hop of a VPN's route, so of neither family.
abbrev pub next_hop_in : Bool → Family → List ℕ → Option NextHop
next_hop_in ipv6_next_hops families.V4 octets =
    if length octets == 4 then Some (hops.V4 (big_number 4 octets))
    else (if ipv6_next_hops then ipv6_hop_in octets else None)
next_hop_in ipv6_next_hops families.V6 octets = ipv6_hop_in octets

-- what an MP attribute of a family holds; MP_UNREACH_NLRI has no next hop
pub record Contents : Type 0 where
  pub next_hop : Option NextHop
  pub destinations : List Destination

-- after AFI and SAFI, the value of MP_REACH_NLRI is the length of the next hop and the next hop, a
-- reserved octet, which means nothing, and the destinations
pub record IsReachValue (form : RouteForm) (family : Family) (value : List ℕ) (contents : Contents)
    : Type 0 where
  pub hop : List ℕ
  pub address : NextHop
  pub reserved : ℕ
  pub nlri : List ℕ
  pub spelled : drop 3 value ≡ length hop ∷ (hop ++ reserved ∷ nlri)
  pub is_hop : next_hop_in form.ipv6_next_hops family hop ≡ Some address
  pub next_hop : contents.next_hop ≡ Some address
  pub destinations : AreDestinations (is_identified form family) family nlri contents.destinations

-- after AFI and SAFI, that of MP_UNREACH_NLRI is destinations
pub record IsUnreachValue (form : RouteForm) (family : Family) (value : List ℕ)
    (contents : Contents) : Type 0 where
  pub next_hop : contents.next_hop ≡ None
  pub destinations : AreDestinations (is_identified form family) family (drop 3 value)
      contents.destinations

abbrev pub with_hop : Option NextHop → Option (List Destination) → Option Contents
with_hop None destinations = None
with_hop (Some hop) None = None
with_hop (Some hop) (Some destinations) =
    Some (record { next_hop = Some hop; destinations = destinations })

-- the contents of MP_REACH_NLRI in this form: none if they are wrong, since the value is too short
-- for its fields, or the next hop's length isn't one of the family, or the destinations are
-- incorrect (RFC 7606, 5.3 and 7.11)
abbrev pub reach_contents : RouteForm → Family → List ℕ → Option Contents
reach_contents form family value =
    if nat_lt (length value) (5 + slice_index value 3)
    then None
    else with_hop (next_hop_in form.ipv6_next_hops family
    (take (slice_index value 3) (drop 4 value)))
    (destinations_of (is_identified form family) family (drop (5 + slice_index value 3) value))

-- those of MP_UNREACH_NLRI: none if the destinations are incorrect (RFC 7606, 5.3 and 7.12)
abbrev pub unreach_contents : RouteForm → Family → List ℕ → Option Contents
unreach_contents form family value =
    option_map (λ destinations. record { next_hop = None; destinations = destinations })
    (destinations_of (is_identified form family) family (drop 3 value))

-- the functions read what the relations say
pub record ReadsMpValues : Type 0 where
  pub reach : (form : RouteForm) (family : Family) (value : List ℕ) (contents : Contents)
      → IsReachValue form family value contents
      ↔ (reach_contents form family value ≡ Some contents)
  pub unreach : (form : RouteForm) (family : Family) (value : List ℕ) (contents : Contents)
      → IsUnreachValue form family value contents
      ↔ (unreach_contents form family value ≡ Some contents)
