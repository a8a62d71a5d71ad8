-- One prefix, with a path that has no list, always has room in a message.
use Rattle.std.proofs.Common.{◌≡◌, ℕ, ◌+◌, ◌*◌, ◌≤◌, Bool, true, false, List, [], ◌∷◌, ◌++◌, length, Option, None, Some, IfSome, option_map, if◌then◌else◌, refl, ap, arith, inl, inr}
use Rattle.std.specs.List.{flat_map}
use Rattle.std.proofs.lemmas.Bool.{cases_Bool}
use Rattle.std.proofs.lemmas.List.{length-append}
use Rattle.byteorder.specs.Endian.{big_bytes}
use Rattle.byteorder.specs.Numbers.{length-bytes_high_first}
use Rattle.bgp_wire.specs.AsNumber.{needs_four_octets}
use Rattle.bgp_attr.specs.declared.classes.Side.{Side}
use Rattle.bgp_attr.specs.declared.types.AttrType.{AttrType}
use Rattle.bgp_attr.specs.declared.types.AttrType.TheVariants as types
use Rattle.bgp_attr.specs.Field.{attribute_octets, is_extended, length_octets}
use Rattle.bgp_attr.specs.LargeCommunities.{large_communities_octets}
use Rattle.bgp_attr.specs.Types.{all_types}
use Rattle.bgp_attr.specs.Values.{aggregator_octets, as_octets, as_path_octets, items_octets}
use Rattle.bgp_attr.specs.Writing.{as4_aggregator_octets, as4_path_octets, attribute_with, flags_for, has_large, next_hop_octets, path_attributes, type_octets, value_in}
use Rattle.bgp_attr.proofs.Written.{types_are}
use Rattle.bgp_open.specs.declared.link.Link.{Link}
use Rattle.bgp_path.specs.AsPath.{PathSegment}
use Rattle.bgp_path.specs.Path.{PathValue}
use Rattle.bgp_path.specs.declared.large_community.LargeCommunity.{LargeCommunity}
use Rattle.bgp_path.specs.declared.path.Aggregator.{Aggregator}
use Rattle.bgp_path.specs.declared.path.NextHop.{NextHop}
use Rattle.bgp_path.specs.declared.path.NextHop.TheVariants as hops
use Rattle.bgp_prefix.specs.Prefix.{PrefixBits, IsPrefix, prefix_octets}
use Rattle.bgp_prefix.specs.PrefixLaws.{bit_count-le}
use Rattle.bgp_prefix.proofs.PrefixParts.{count_of_octets}
use Rattle.bgp_prefix.specs.declared.family.Family.{Family}
use Rattle.bgp_prefix.specs.declared.family.Family.TheVariants.{V4, V6}
use Rattle.bgp_update.specs.Found.{side_of}
use Rattle.bgp_update_writer.specs.Refusals.{IsTooLarge}
use Rattle.bgp_update_writer.specs.Short.{HasFewNumbers, IsShortPath, OnePrefixCanBeWritten}
use Rattle.bgp_update_writer.specs.Update.{UpdateValue, Announces, Withdraws}
use Rattle.bgp_update_writer.specs.Written.{announced_octets, hop_octets, nlri_octets, reach_octets, unreach_octets, withdrawn_octets, written_attributes}
use Rattle.bgp_update_writer.proofs.Measured.{has_room, length_of_update, reach_len, unreach_len}

-- ---- the values of a path's attributes have at most eight octets

abbrev IsFew : Option (List ℕ) → Type 0
IsFew value = IfSome value (λ octets. length octets ≤ 8)

one_number : (as4 : Bool) (number : ℕ) → length (as_octets as4 number) ≤ 4
one_number true number = omega arith
one_number false number = omega arith

few_path : (as4 : Bool) (as_path : List PathSegment) → HasFewNumbers as_path → length (as_path_octets as4 as_path) ≤ 8
few_path as4 as_path few = elim few [
  | inl none ↦ rw none (omega arith)
  | inr one ↦ rw one.2 (omega (arith, one_number as4 one.1, length-append (as_octets as4 one.1) [], length-append (as_octets as4 one.1 ++ []) []))
]

few_as4 : (as4 : Bool) (as_path : List PathSegment) → HasFewNumbers as_path → IsFew (as4_path_octets as4 as_path)
few_as4 true as_path few = tt
few_as4 false as_path few = elim (cases_Bool (has_large as_path)) [
  | inl e ↦ rw e (few_path true as_path few)
  | inr e ↦ rw e tt
]

few_hop : (hop : NextHop) → IsFew (next_hop_octets hop)
few_hop (hops.V4 address) = omega arith
few_hop (hops.V6 address) = tt
few_hop (hops.V6WithLinkLocal address link_local) = tt

few_aggregator : (as4 : Bool) (a : Aggregator) → length (aggregator_octets as4 a) ≤ 8
few_aggregator as4 a = omega (arith, one_number as4 a.as_number, length-append (as_octets as4 a.as_number) (big_bytes 4 a.address))

few_as4_aggregator : (as4 : Bool) (a : Option Aggregator) → IsFew (as4_aggregator_octets as4 a)
few_as4_aggregator as4 None = tt
few_as4_aggregator true (Some a) = tt
few_as4_aggregator false (Some a) = elim (cases_Bool (needs_four_octets a.as_number)) [
  | inl e ↦ rw e (few_aggregator true a)
  | inr e ↦ rw e tt
]

few_number : (n : Option ℕ) → IsFew (option_map (big_bytes 4) n)
few_number None = tt
few_number (Some n) = omega arith

few_items : (size : ℕ) (items : List ℕ) → items ≡ [] → IsFew (items_octets size items)
few_items size items none = rw none tt

few_large : (cs : List LargeCommunity) → cs ≡ [] → IsFew (large_communities_octets cs)
few_large cs none = rw none tt

few_mark : (mark : Bool) → IsFew (if mark then Some [] else None)
few_mark true = omega arith
few_mark false = tt

few_own_aggregator : (as4 : Bool) (a : Option Aggregator) → IsFew (option_map (aggregator_octets as4) a)
few_own_aggregator as4 None = tt
few_own_aggregator as4 (Some a) = few_aggregator as4 a

few_value : (side : Side) (p : PathValue) → IsShortPath p → (t : AttrType) → IsFew (value_in side p t)
few_value side p short types.Origin = omega arith
few_value side p short types.AsPath = few_path side.as4 p.as_path short.as_path
few_value side p short types.NextHop = few_hop p.next_hop
few_value side p short types.MultiExitDisc = few_number p.multi_exit_disc
few_value side p short types.LocalPref = few_number p.local_pref
few_value side p short types.AtomicAggregate = few_mark p.atomic_aggregate
few_value side p short types.Aggregator = few_own_aggregator side.as4 p.aggregator
few_value side p short types.Communities = few_items 4 p.communities short.communities
few_value side p short types.OriginatorId = few_number p.originator_id
few_value side p short types.ClusterList = few_items 4 p.cluster_list short.cluster_list
few_value side p short types.MpReachNlri = tt
few_value side p short types.MpUnreachNlri = tt
few_value side p short types.ExtendedCommunities = few_items 8 p.extended_communities short.extended_communities
few_value side p short types.As4Path = few_as4 side.as4 p.as_path short.as_path
few_value side p short types.As4Aggregator = few_as4_aggregator side.as4 p.aggregator
few_value side p short types.LargeCommunities = few_large p.large_communities short.large_communities

-- ---- so its attributes have at most 192 octets

few_length_octets : (flags : ℕ) → length_octets flags ≤ 2
few_length_octets flags = elim (cases_Bool (is_extended flags)) [
  | inl e ↦ rw e (omega arith)
  | inr e ↦ rw e (omega arith)
]

one_attribute : (t : AttrType) (value : List ℕ) → length (attribute_octets (attribute_with t value)) ≤ 4 + length value
one_attribute t value =
    let flags = flags_for t (length value) in
    let count = big_bytes (length_octets flags) (length value) in
    omega (arith, length-append count value, length-bytes_high_first (length_octets flags) (length value), few_length_octets flags)

few_octets : (side : Side) (p : PathValue) (t : AttrType) (v : Option (List ℕ)) → value_in side p t ≡ v → IsFew v → length (type_octets side p t) ≤ 12
few_octets side p t None e few = rw e (omega arith)
few_octets side p t (Some value) e few = rw e (omega (arith, one_attribute t value))

each_few : (side : Side) (p : PathValue) → IsShortPath p → (ts : List AttrType) → length (flat_map (type_octets side p) ts) ≤ 12 * length ts
each_few side p short [] = omega arith
each_few side p short (t ∷ ts) =
    omega (arith, few_octets side p t (value_in side p t) refl (few_value side p short t), each_few side p short ts, length-append (type_octets side p t) (flat_map (type_octets side p) ts))

few_attributes : (side : Side) (p : PathValue) → IsShortPath p → length (flat_map attribute_octets (path_attributes side p)) ≤ 192
few_attributes side p short = omega (arith, each_few side p short all_types, ap length (types_are side p all_types))

-- ---- one prefix and its next hop

one_prefix : (prefix : PrefixBits) → IsPrefix prefix → length (nlri_octets (prefix ∷ [])) ≤ 17
one_prefix prefix is = omega (arith, count_of_octets prefix, bit_count-le prefix.family, length-append (prefix_octets prefix) [])

one_hop : (hop : NextHop) → length (hop_octets hop) ≤ 32
one_hop (hops.V4 address) = omega arith
one_hop (hops.V6 address) = omega arith
one_hop (hops.V6WithLinkLocal address link_local) = omega arith

-- ---- the message

fits : (link : Link) (value : UpdateValue) → length (withdrawn_octets value) + length (flat_map attribute_octets (written_attributes link value)) + length (announced_octets value) ≤ 4073 → ¬ IsTooLarge link value
fits link value room large = absurd (omega (arith, length_of_update link value, has_room link))

announced_fits : (link : Link) (family : Family) (prefix : PrefixBits) → IsPrefix prefix → (path : PathValue) → IsShortPath path → ¬ IsTooLarge link (Announces family (prefix ∷ []) path)
announced_fits link V4 prefix is path short =
    fits link (Announces V4 (prefix ∷ []) path) (omega (arith, one_prefix prefix is, few_attributes (side_of link) path short))
announced_fits link V6 prefix is path short =
    let value = reach_octets path.next_hop (prefix ∷ []) in
    let own = flat_map attribute_octets (path_attributes (side_of link) path) in
    fits link (Announces V6 (prefix ∷ []) path)
    (omega (
      arith,
      one_prefix prefix is,
      one_hop path.next_hop,
      reach_len path.next_hop (prefix ∷ []),
      one_attribute types.MpReachNlri value,
      few_attributes (side_of link) path short,
      length-append (attribute_octets (attribute_with types.MpReachNlri value)) own,
    ))

withdrawn_fits : (link : Link) (family : Family) (prefix : PrefixBits) → IsPrefix prefix → ¬ IsTooLarge link (Withdraws family (prefix ∷ []))
withdrawn_fits link V4 prefix is = fits link (Withdraws V4 (prefix ∷ [])) (omega (arith, one_prefix prefix is))
withdrawn_fits link V6 prefix is =
    let value = unreach_octets (prefix ∷ []) in
    fits link (Withdraws V6 (prefix ∷ []))
    (omega (
      arith,
      one_prefix prefix is,
      unreach_len (prefix ∷ []),
      one_attribute types.MpUnreachNlri value,
      length-append (attribute_octets (attribute_with types.MpUnreachNlri value)) [],
    ))

pub one_can_be_written : OnePrefixCanBeWritten
one_can_be_written link family prefix is = (announced_fits link family prefix is, withdrawn_fits link family prefix is)
