-- The local system's own OPEN: what it may send, by its configuration.
use Rattle.std.specs.Prelude.{◌≡◌, ◌+◌, ◌++◌, ◌⊎◌, ◌||◌, if◌then◌else◌, Bool, ℕ, List, [], ◌∷◌}
use Rattle.std.specs.Prelude.{Some, None}
use Rattle.byteorder.specs.Endian.{big_bytes}
use Rattle.bgp_prefix.specs.declared.family.Family.{Family}
use Rattle.bgp_prefix.specs.declared.family.Family.TheVariants.{V4, V6}
use Rattle.bgp_wire.specs.AsNumber.{two_octet_as}
use Rattle.bgp_open.specs.declared.config.Config.{Config}
use Rattle.bgp_open.specs.declared.route_offer.RouteOffer.{RouteOffer}
use Rattle.bgp_open.specs.Triplet.{Triplet}
use Rattle.bgp_open.specs.Offer.{afi_of, families_of, as_number_of, offers_extended}
use Rattle.bgp_open.specs.Open.{OpenFields, open_of}
use Rattle.bgp_open.specs.OpenFault.{IsWellFormed}
use Rattle.bgp_open.specs.RouteOffer.{nothing, route_offer_in}

-- The octets are an OPEN that the local system may send: whole, of version 4 and well-formed, with
-- the AS number (or AS_TRANS), Hold Time and identifier that are configured; the families that it
-- offers (RFC 4760, 8) are those that are configured; it has a capability of four-octet AS numbers,
-- the first with its own, exactly where that is configured (RFC 6793, 4.1), and offers extended
-- messages exactly where that is (RFC 8654, 4). Where something is configured to be offered about
-- routes, it offers just that (RFC 7911, 4; RFC 8950, 4). Other capabilities are free, and where
-- nothing is configured to be offered about routes those on routes, too.
pub record IsOwnOpen (config : Config) (octets : List ℕ) : Type 0 where
  pub form : IsWellFormed octets
  pub my_as : (open_of octets).my_as ≡ two_octet_as config.parts.local_as
  pub hold : (open_of octets).hold ≡ config.parts.hold
  pub id : (open_of octets).id ≡ config.parts.local_id
  pub families : families_of (open_of octets).capabilities ≡ config.parts.families
  pub as_number : as_number_of (open_of octets).capabilities
      ≡ (if config.parts.as4 then Some config.parts.local_as else None)
  pub extended : offers_extended (open_of octets).capabilities ≡ config.parts.session.extended
  pub offers : (config.parts.offers ≡ nothing)
      ⊎ (route_offer_in (open_of octets) ≡ config.parts.offers)

-- the capability that names a family: its AFI, a reserved octet, and SAFI 1 (unicast)
abbrev pub multiprotocol_for : Family → Triplet
multiprotocol_for family = record { code = 1; value = big_bytes 2 (afi_of family) ++ 0 ∷ 1 ∷ [] }

-- the capability of a four-octet AS number
abbrev pub as4_for : ℕ → Triplet
as4_for number = record { code = 65; value = big_bytes 4 number }

-- the capability of extended messages
abbrev pub extended_messages : Triplet
extended_messages = record { code = 6; value = [] }

-- Send/Receive: 1 that several paths can be received, 2 that they are sent, 3 both
abbrev pub mode_for : Bool → Bool → ℕ
mode_for receives sends = (if receives then 1 else 0) + (if sends then 2 else 0)

-- the entry for a family, AFI, SAFI 1 (unicast) and Send/Receive (RFC 7911, 4), if it has one
abbrev pub path_entry_for : Family → Bool → Bool → List ℕ
path_entry_for family receives sends =
    if receives || sends
    then big_bytes 2 (afi_of family) ++ 1 ∷ mode_for receives sends ∷ []
    else []

-- the entries for both families
abbrev pub path_entries_for : RouteOffer → List ℕ
path_entries_for offers =
    path_entry_for V4 offers.receives.v4 offers.sends.v4
    ++ path_entry_for V6 offers.receives.v6 offers.sends.v6

-- the capability that has these entries, if there are any
abbrev pub paths_with : List ℕ → List Triplet
paths_with [] = []
paths_with (octet ∷ octets) = (record { code = 69; value = octet ∷ octets }) ∷ []

-- the capability of IPv6 next hops of IPv4 routes: AFI 1, SAFI 1, and AFI 2 of the next hops
abbrev pub next_hops_for : Triplet
next_hops_for =
    record { code = 5; value = big_bytes 2 1 ++ (big_bytes 2 1 ++ (big_bytes 2 2 ++ [])) }

-- the capabilities that offer this about routes, and nothing else
abbrev pub capabilities_for : RouteOffer → List Triplet
capabilities_for offers =
    paths_with (path_entries_for offers) ++ (if offers.next_hops then next_hops_for ∷ [] else [])

-- those that say the families, the AS number, and that extended messages can be received
abbrev pub session_capabilities : Config → List Triplet
session_capabilities config =
    (if config.parts.families.v4 then multiprotocol_for V4 ∷ [] else [])
    ++ ((if config.parts.families.v6 then multiprotocol_for V6 ∷ [] else [])
    ++ ((if config.parts.as4 then as4_for config.parts.local_as ∷ [] else [])
    ++ (if config.parts.session.extended then extended_messages ∷ [] else [])))

-- the capabilities that say no more than is configured: these, and what is offered about routes
abbrev pub own_capabilities : Config → List Triplet
own_capabilities config = session_capabilities config ++ capabilities_for config.parts.offers

-- what the local system's OPEN says that says no more than is configured
abbrev pub own_fields : Config → OpenFields
own_fields config = record {
  my_as = two_octet_as config.parts.local_as;
  hold = config.parts.hold;
  id = config.parts.local_id;
  capabilities = own_capabilities config;
}
