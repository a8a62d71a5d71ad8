-- The members of a route have nothing hidden.
use Rattle.std.proofs.Common.{◌≡◌, ◌++◌, ◌/◌, ◌%◌, ℕ, true, List, [], ◌∷◌, Option, None, Some, codes, refl}
use Rattle.std.proofs.lemmas.List.Elements.{All-from_get_or}
use Rattle.byteorder.specs.Endian.{big_bytes}
use Rattle.json.specs.Json.{Json, boolean}
use Rattle.bgp_prefix.specs.declared.address.Address.TheVariants.{V4}
use Rattle.bgp_prefix.proofs.PrintedTexts.{octets_below}
use Rattle.bgp_path.specs.AsPath.{PathSegment}
use Rattle.bgp_path.specs.LargeCommunities.{large_community_text}
use Rattle.bgp_path.specs.Path.{PathValue}
use Rattle.bgp_path.specs.declared.as_path.SegmentKind.{SegmentKind}
use Rattle.bgp_path.specs.declared.as_path.SegmentKind.TheVariants.{Set, Sequence}
use Rattle.bgp_path.specs.declared.large_community.LargeCommunity.{LargeCommunity}
use Rattle.bgp_path.specs.declared.path.Aggregator.{Aggregator}
use Rattle.bgp_path.specs.declared.path.Origin.{Origin}
use Rattle.bgp_path.specs.declared.path.Origin.TheVariants as origins
use Rattle.bgp_wire.specs.Octets.{AreOctets}
use Rattle.bgp_update.specs.declared.destination.Destination.{Destination}
use Rattle.bgp_text.specs.RouteText.{community_text, extended_text}
use Rattle.bgp_json_values.specs.Objects.{in_array, number_of}
use Rattle.bgp_json_values.specs.RoutesJson.{hop_addresses}
use Rattle.bgp_json_values.specs.Texts.{address_json}
use Rattle.bgp_json_verdicts.specs.At.{number_members}
use Rattle.bgp_json_verdicts.specs.RouteJson.{aggregator_members, community_json, community_members, destination_members, extended_json, kind_values, large_json, list_members, mandatory_members, member_if, origin_text, path_members, path_values, reflection_members, route_members, router_json, router_members, single_members}
use Rattle.bgp_json_laws.proofs.Texts.{IsOctet}
use Rattle.bgp_visible_laws.specs.Visible.{IsVisible}
use Rattle.bgp_visible_laws.proofs.JsonTexts.{AreTexts, HaveTexts, ItemsAreTexts, field, of_any, of_both, of_number, of_text}
use Rattle.bgp_visible_laws.proofs.JsonValues.{if_texts, of_address}
use Rattle.bgp_visible_laws.proofs.Texts.{decimal_visible, encoded_visible, prefix_visible}
use Rattle.bgp_visible_laws.proofs.Visible.{both, is_word, octet_visible, word}
use Rattle.bgp_why_laws.proofs.JsonMembers.{of_some}

-- ---- AS paths

both_items : (xs ys : List Json) → ItemsAreTexts (in_array xs) → ItemsAreTexts (in_array ys) → ItemsAreTexts (in_array (xs ++ ys))
both_items [] ys first second = second
both_items (x ∷ xs) ys first second = (first.0, both_items xs ys first.1 second)

of_sequence : (numbers : List ℕ) → ItemsAreTexts (in_array (kind_values Sequence numbers))
of_sequence [] = tt
of_sequence (n ∷ numbers) = (of_number n, of_sequence numbers)

of_kind : (kind : SegmentKind) (numbers : List ℕ) → ItemsAreTexts (in_array (kind_values kind numbers))
of_kind Sequence numbers = of_sequence numbers
of_kind Set numbers = (of_any number_of of_number numbers, tt)

of_steps : (segments : List PathSegment) → ItemsAreTexts (in_array (path_values segments))
of_steps [] = tt
of_steps (s ∷ segments) = both_items (kind_values s.kind s.numbers) (path_values segments) (of_kind s.kind s.numbers) (of_steps segments)

-- ---- attributes

origin_word : (origin : Origin) → is_word (origin_text origin) ≡ true
origin_word origins.Igp = refl
origin_word origins.Egp = refl
origin_word origins.Incomplete = refl

of_aggregator : (a : Option Aggregator) → HaveTexts (aggregator_members a)
of_aggregator None = tt
of_aggregator (Some a) =
    field (codes "aggregator") refl (field (codes "as") refl (of_number a.as_number) (field (codes "address") refl (of_address (V4 a.address)) tt)) tt

of_router : (name : List ℕ) → is_word name ≡ true → (number : Option ℕ) → HaveTexts (router_members name number)
of_router name is None = tt
of_router name is (Some number) = field name is (of_address (V4 number)) tt

of_list : {X : Type 0} (name : List ℕ) → is_word name ≡ true → (json : X → Json) → ((x : X) → AreTexts (json x)) → (xs : List X) → HaveTexts (list_members name json xs)
of_list name is json each [] = tt
of_list name is json each (x ∷ xs) = field name is (of_any json each (x ∷ xs)) tt

community_visible : (value : ℕ) → IsVisible (community_text value)
community_visible value = both (decimal_visible (value / 65536)) (both (octet_visible 58 refl) (decimal_visible (value % 65536)))

eight_octets : (value : ℕ) → AreOctets (big_bytes 8 value)
eight_octets value = All-from_get_or IsOctet (big_bytes 8 value) 0 (λ i inside. octets_below 8 value i)

extended_visible : (value : ℕ) → IsVisible (extended_text value)
extended_visible value = encoded_visible (big_bytes 8 value) (eight_octets value)

large_visible : (c : LargeCommunity) → IsVisible (large_community_text c)
large_visible c =
    both (decimal_visible c.global_administrator) (both (octet_visible 58 refl) (both (decimal_visible c.local_data_part_1)
    (both (octet_visible 58 refl) (decimal_visible c.local_data_part_2))))

of_mandatory : (p : PathValue) → HaveTexts (mandatory_members p)
of_mandatory p =
    field (codes "next_hop") refl (of_any address_json of_address (hop_addresses p.next_hop))
    (field (codes "path") refl (of_steps p.as_path) (field (codes "origin") refl (of_text (word (origin_text p.origin) (origin_word p.origin))) tt))

of_single : (p : PathValue) → HaveTexts (single_members p)
of_single p =
    of_both (number_members (codes "med") p.multi_exit_disc) _ (of_some (codes "med") refl p.multi_exit_disc)
    (of_both (number_members (codes "pref") p.local_pref) _ (of_some (codes "pref") refl p.local_pref)
    (of_both (member_if p.atomic_aggregate (codes "atomic") (boolean true)) (aggregator_members p.aggregator)
    (if_texts p.atomic_aggregate ((codes "atomic", boolean true) ∷ []) [] (field (codes "atomic") refl tt tt) tt) (of_aggregator p.aggregator)))

of_communities : (p : PathValue) → HaveTexts (community_members p)
of_communities p =
    of_both (list_members (codes "communities") community_json p.communities) _
    (of_list (codes "communities") refl community_json (λ v. of_text (community_visible v)) p.communities)
    (of_both (list_members (codes "extended") extended_json p.extended_communities) (list_members (codes "large") large_json p.large_communities)
    (of_list (codes "extended") refl extended_json (λ v. of_text (extended_visible v)) p.extended_communities)
    (of_list (codes "large") refl large_json (λ v. of_text (large_visible v)) p.large_communities))

of_reflection : (p : PathValue) → HaveTexts (reflection_members p)
of_reflection p =
    of_both (router_members (codes "originator") p.originator_id) (list_members (codes "clusters") router_json p.cluster_list)
    (of_router (codes "originator") refl p.originator_id) (of_list (codes "clusters") refl router_json (λ v. of_address (V4 v)) p.cluster_list)

of_path : (p : PathValue) → HaveTexts (path_members p)
of_path p =
    of_both (mandatory_members p) (single_members p ++ (community_members p ++ reflection_members p)) (of_mandatory p)
    (of_both (single_members p) (community_members p ++ reflection_members p) (of_single p)
    (of_both (community_members p) (reflection_members p) (of_communities p) (of_reflection p)))

-- ---- a route

pub of_route : (destination : Destination) (p : PathValue) → HaveTexts (route_members destination p)
of_route destination p =
    of_both (destination_members destination) (path_members p)
    (field (codes "prefix") refl (of_text (prefix_visible destination.prefix)) (of_some (codes "path_id") refl destination.path)) (of_path p)
