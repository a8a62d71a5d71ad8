-- What the values of MP_REACH_NLRI and MP_UNREACH_NLRI say (RFC 4760, 3 and 4): routes of IPv4 or
-- IPv6 unicast, or octets of another family.
use Rattle.std.specs.Prelude.{ℕ, true, List, Option, None, Some, if◌then◌else◌, nat_lt, length}
use Rattle.std.specs.Prelude.{drop, slice_index}
use Rattle.byteorder.specs.Endian.{big_number}
use Rattle.bgp_prefix.specs.declared.family.Family.{Family}
use Rattle.bgp_open.specs.declared.route_form.RouteForm.{RouteForm}
use Rattle.bgp_update.specs.MpValue.{Contents, family_in, reach_contents, unreach_contents}
use Rattle.bgp_values.specs.declared.routes_value.RoutesValue as declared
use Rattle.bgp_values.specs.declared.routes_value.RoutesValue.TheVariants as variants

pub data RoutesValue : Type 0 where
  -- unicast routes of a family
  unicast : Family → Contents → RoutesValue
  -- the AFI and the SAFI of another family, and the octets behind them
  other : ℕ → ℕ → List ℕ → RoutesValue

-- a next hop is read by its length, whether both OPENs offer IPv6 ones for IPv4 routes or not
abbrev pub with_any_hop : RouteForm → RouteForm
with_any_hop form = record { identified = form.identified; ipv6_next_hops = true }

abbrev pub unicast_of : Family → Option Contents → Option RoutesValue
unicast_of family None = None
unicast_of family (Some contents) = Some (unicast family contents)

-- octets of another family: AFI 2, SAFI 1, and the rest
abbrev pub other_in : List ℕ → RoutesValue
other_in value = other (big_number 2 value) (slice_index value 2) (drop 3 value)

-- of a value that has an AFI and a SAFI, by the family that they name
abbrev pub in_family : (Family → List ℕ → Option Contents) → List ℕ → Option Family
    → Option RoutesValue
in_family read value None = Some (other_in value)
in_family read value (Some family) = unicast_of family (read family value)

abbrev pub routes_in : (Family → List ℕ → Option Contents) → List ℕ → Option RoutesValue
routes_in read value =
    if nat_lt (length value) 3 then None else in_family read value (family_in value)

-- of MP_REACH_NLRI, where routes are spelled in this form
abbrev pub reach_value : RouteForm → List ℕ → Option RoutesValue
reach_value form value = routes_in (reach_contents (with_any_hop form)) value

-- of MP_UNREACH_NLRI
abbrev pub unreach_value : RouteForm → List ℕ → Option RoutesValue
unreach_value form value = routes_in (unreach_contents form) value

-- what code has for a value
abbrev pub routes_value_of : declared.RoutesValue → RoutesValue
routes_value_of (variants.Unicast family next_hop destinations) =
    unicast family (record { next_hop = next_hop; destinations = destinations })
routes_value_of (variants.Other afi safi octets) = other afi safi octets.now
