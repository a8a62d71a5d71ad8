-- What an OPEN offers about routes: several paths to a prefix (RFC 7911, 4), and IPv6 next hops of
-- IPv4 routes (RFC 8950, 4).
use Rattle.std.specs.Prelude.{◌≡◌, ◌%◌, ◌==◌, ◌&&◌, ◌||◌, nat_lt, Bool, false}
use Rattle.std.specs.Prelude.{ℕ, List, [], ◌∷◌, length}
use Rattle.std.specs.List.{list_any, list_all}
use Rattle.byteorder.specs.Endian.{big_number}
use Rattle.bgp_prefix.specs.declared.family.Family.{Family}
use Rattle.bgp_prefix.specs.declared.family.Family.TheVariants.{V4, V6}
use Rattle.bgp_open.specs.declared.next_hops.HopEntry.{HopEntry}
use Rattle.bgp_open.specs.declared.paths.Direction.{Direction}
use Rattle.bgp_open.specs.declared.paths.Direction.TheVariants.{Receives, Sends}
use Rattle.bgp_open.specs.declared.paths.PathEntry.{PathEntry}
use Rattle.bgp_open.specs.declared.route_offer.RouteOffer.{RouteOffer}
use Rattle.bgp_open.specs.Families.{no_families}
use Rattle.bgp_open.specs.Offer.{afi_of}
use Rattle.bgp_open.specs.Open.{OpenFields, open_of}
use Rattle.bgp_open.specs.OpenFault.{IsReadable}
use Rattle.bgp_open.specs.Triplet.{Triplet}

-- entries of `size` octets each, at least one
abbrev pub are_entries : ℕ → List ℕ → Bool
are_entries size value = nat_lt 0 (length value) && (length value % size == 0)

-- ---- several paths (RFC 7911, 4), capability 69: entries of AFI, 2 octets, SAFI and Send/Receive

-- the entries of a value, one after another
abbrev pub path_entries : List ℕ → List PathEntry
path_entries (high ∷ low ∷ safi ∷ mode ∷ others) =
    (record { afi = big_number 2 (high ∷ low ∷ []); safi = safi; mode = mode })
    ∷ path_entries others
path_entries octets = []

-- Send/Receive is 1, 2 or 3
abbrev pub has_mode : PathEntry → Bool
has_mode entry = (entry.mode == 1) || ((entry.mode == 2) || (entry.mode == 3))

-- 1 that several paths can be received, 2 that they are sent, and 3 both
abbrev pub mode_of : Direction → ℕ
mode_of Receives = 1
mode_of Sends = 2

-- the entry names the family as unicast, and this direction
abbrev pub names_direction : Family → Direction → PathEntry → Bool
names_direction family direction entry =
    (entry.afi == afi_of family)
    && ((entry.safi == 1) && ((entry.mode == mode_of direction) || (entry.mode == 3)))

-- The capability is in form: entries fill it, at least one, and each one's Send/Receive is 1 to 3,
-- of whatever family. One with another Send/Receive is "treated as not understood" (RFC 7911, 4),
-- and one of another length is passed over, too (profile): then none of its entries counts.
abbrev pub is_paths : Triplet → Bool
is_paths capability =
    (capability.code == 69)
    && (are_entries 4 capability.value && list_all has_mode (path_entries capability.value))

-- it is in form, and one of its entries offers the direction for the family
abbrev pub offers_direction : Family → Direction → Triplet → Bool
offers_direction family direction capability =
    is_paths capability
    && list_any (names_direction family direction) (path_entries capability.value)

-- some capability does, whatever others say of the family
abbrev pub offers_paths : Family → Direction → List Triplet → Bool
offers_paths family direction capabilities =
    list_any (offers_direction family direction) capabilities

-- the OPEN offers to send several paths to a prefix of the family, or to receive several
abbrev pub sends_paths : Family → List Triplet → Bool
sends_paths family capabilities = offers_paths family Sends capabilities

abbrev pub receives_paths : Family → List Triplet → Bool
receives_paths family capabilities = offers_paths family Receives capabilities

-- ---- IPv6 next hops of IPv4 routes (RFC 8950, 4), capability 5: entries of AFI, SAFI and the AFI
-- of next hops, 2 octets each

-- the entries of a value, one after another
abbrev pub hop_entries : List ℕ → List HopEntry
hop_entries (a ∷ b ∷ c ∷ d ∷ e ∷ f ∷ others) =
    (record {
      afi = big_number 2 (a ∷ b ∷ []);
      safi = big_number 2 (c ∷ d ∷ []);
      hop_afi = big_number 2 (e ∷ f ∷ []);
    })
    ∷ hop_entries others
hop_entries octets = []

-- an entry is AFI 1, SAFI 1 and AFI 2
abbrev pub is_ipv6_for_ipv4 : HopEntry → Bool
is_ipv6_for_ipv4 entry = (entry.afi == 1) && ((entry.safi == 1) && (entry.hop_afi == 2))

-- the capability is in form, its entries fill it, at least one; and one of them is that
abbrev pub is_next_hops : Triplet → Bool
is_next_hops capability =
    (capability.code == 5)
    && (are_entries 6 capability.value && list_any is_ipv6_for_ipv4 (hop_entries capability.value))

-- some capability is
abbrev pub offers_next_hops : List Triplet → Bool
offers_next_hops capabilities = list_any is_next_hops capabilities

-- ---- an OPEN's offer

abbrev pub nothing : RouteOffer
nothing = record {
  sends = no_families;
  receives = no_families;
  next_hops = false;
}

-- what capabilities offer
abbrev pub offer_of : List Triplet → RouteOffer
offer_of capabilities = record {
  sends = record { v4 = sends_paths V4 capabilities; v6 = sends_paths V6 capabilities };
  receives = record { v4 = receives_paths V4 capabilities; v6 = receives_paths V6 capabilities };
  next_hops = offers_next_hops capabilities;
}

-- what an OPEN offers that says this
abbrev pub route_offer_in : OpenFields → RouteOffer
route_offer_in message = offer_of message.capabilities

-- what octets offer: what their OPEN does, if they are a readable one; else nothing
pub record IsRouteOffer (octets : List ℕ) (offer : RouteOffer) : Type 0 where
  pub readable : IsReadable octets → offer ≡ route_offer_in (open_of octets)
  pub unreadable : ¬ IsReadable octets → offer ≡ nothing
