-- Next hops whose JSON is equal are equal.
use Rattle.std.proofs.Common.{◌≡◌, ◌∙◌, ◌<◌, ◌^◌, ◌==◌, ℕ, Bool, true, false, List, [], ◌∷◌, All, Some, None, drop, if◌then◌else◌, length, refl, sym, ap, subst, inl, inr}
use Rattle.std.proofs.lemmas.Bool.{cases_Bool}
use Rattle.std.proofs.lemmas.Option.{cond_some, none-some, same_Some}
use Rattle.std.proofs.lemmas.List.Elements.{All-cons, All-drop, All-nil}
use Rattle.byteorder.specs.Endian.{big_number}
use Rattle.bgp_prefix.specs.Address.{IsAddress}
use Rattle.bgp_prefix.specs.declared.address.Address.{Address}
use Rattle.bgp_prefix.specs.declared.address.Address.TheVariants as addresses
use Rattle.bgp_prefix.specs.declared.family.Family.{Family}
use Rattle.bgp_prefix.specs.declared.family.Family.TheVariants as families
use Rattle.bgp_path.specs.declared.path.NextHop.{NextHop}
use Rattle.bgp_path.specs.declared.path.NextHop.TheVariants as hops
use Rattle.bgp_wire.specs.Octets.{AreOctets}
use Rattle.bgp_update.specs.MpValue.{ipv6_hop_in, next_hop_in}
use Rattle.bgp_json_values.specs.RoutesJson.{hop_addresses, hop_json}
use Rattle.bgp_json_values.specs.Texts.{address_json}
use Rattle.bgp_json_laws.proofs.Lists.{lists_equal}
use Rattle.bgp_json_laws.proofs.Texts.{IsOctet, number_fits, same_address}

-- its addresses are some
abbrev pub IsHop : NextHop → Type 0
IsHop (hops.V4 address) = address < 2 ^ 32
IsHop (hops.V6 address) = address < 2 ^ 128
IsHop (hops.V6WithLinkLocal address link_local) = (address < 2 ^ 128) × (link_local < 2 ^ 128)

each_address : (hop : NextHop) → IsHop hop → All IsAddress (hop_addresses hop)
each_address (hops.V4 address) is = All-cons IsAddress (addresses.V4 address) [] is (All-nil IsAddress)
each_address (hops.V6 address) is = All-cons IsAddress (addresses.V6 address) [] is (All-nil IsAddress)
each_address (hops.V6WithLinkLocal address link_local) is =
    All-cons IsAddress (addresses.V6 address) (addresses.V6 link_local ∷ []) is.0 (All-cons IsAddress (addresses.V6 link_local) [] is.1 (All-nil IsAddress))

-- the hop that has these addresses
abbrev hop_of : List Address → NextHop
hop_of [] = hops.V4 0
hop_of (addresses.V4 address ∷ rest) = hops.V4 address
hop_of (addresses.V6 address ∷ []) = hops.V6 address
hop_of (addresses.V6 address ∷ addresses.V4 other ∷ rest) = hops.V6 address
hop_of (addresses.V6 address ∷ addresses.V6 link_local ∷ rest) = hops.V6WithLinkLocal address link_local

hop_back : (hop : NextHop) → hop_of (hop_addresses hop) ≡ hop
hop_back (hops.V4 address) = refl
hop_back (hops.V6 address) = refl
hop_back (hops.V6WithLinkLocal address link_local) = refl

pub same_hop : (hop other : NextHop) → IsHop hop → IsHop other → hop_json hop ≡ hop_json other → hop ≡ other
same_hop hop other is also e =
    sym (hop_back hop)
    ∙ ap hop_of (lists_equal address_json address_json IsAddress IsAddress same_address (hop_addresses hop) (hop_addresses other) (each_address hop is) (each_address other also) e)
    ∙ hop_back other

-- ---- a hop that is read of octets

long_hop : (octets : List ℕ) (hop : NextHop) → AreOctets octets
    → (if length octets == 32 then Some (hops.V6WithLinkLocal (big_number 16 octets) (big_number 16 (drop 16 octets))) else None) ≡ Some hop → IsHop hop
long_hop octets hop are e =
    let is = cond_some (length octets == 32) (hops.V6WithLinkLocal (big_number 16 octets) (big_number 16 (drop 16 octets))) hop e in
    subst IsHop is.1 (number_fits 16 octets are, number_fits 16 (drop 16 octets) (All-drop IsOctet 16 octets are))

ipv6_hop : (octets : List ℕ) (hop : NextHop) → AreOctets octets → ipv6_hop_in octets ≡ Some hop → IsHop hop
ipv6_hop octets hop are e = elim (cases_Bool (length octets == 16)) [
  | inl is ↦
      let same : Some (hops.V6 (big_number 16 octets)) ≡ Some hop = rw is at e in
      subst IsHop (same_Some (hops.V6 (big_number 16 octets)) hop same) (number_fits 16 octets are)
  | inr isnt ↦ long_hop octets hop are (rw isnt at e)
]

either_hop : (ipv6_next_hops : Bool) (octets : List ℕ) (hop : NextHop) → AreOctets octets → (if ipv6_next_hops then ipv6_hop_in octets else None) ≡ Some hop → IsHop hop
either_hop true octets hop are e = ipv6_hop octets hop are e
either_hop false octets hop are e = absurd (none-some hop e)

pub hop_read : (ipv6_next_hops : Bool) (family : Family) (octets : List ℕ) (hop : NextHop) → AreOctets octets
    → next_hop_in ipv6_next_hops family octets ≡ Some hop → IsHop hop
hop_read ipv6_next_hops families.V4 octets hop are e = elim (cases_Bool (length octets == 4)) [
  | inl is ↦
      let same : Some (hops.V4 (big_number 4 octets)) ≡ Some hop = rw is at e in
      subst IsHop (same_Some (hops.V4 (big_number 4 octets)) hop same) (number_fits 4 octets are)
  | inr isnt ↦ either_hop ipv6_next_hops octets hop are (rw isnt at e)
]
hop_read ipv6_next_hops families.V6 octets hop are e = ipv6_hop octets hop are e
