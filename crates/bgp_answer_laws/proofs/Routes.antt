-- The text of a route has no line feed.
use Rattle.std.proofs.Common.{◌/◌, ◌%◌, ℕ, List, [], ◌∷◌, Option, None, Some, codes, map, refl}
use Rattle.std.specs.Fmt.{decimal}
use Rattle.std.specs.List.{flat_map, join_with_byte}
use Rattle.byteorder.specs.Endian.{big_bytes}
use Rattle.bgp_prefix.specs.declared.address.Address.TheVariants.{V4}
use Rattle.bgp_path.specs.AsPath.{PathSegment}
use Rattle.bgp_path.specs.LargeCommunities.{large_community_text}
use Rattle.bgp_path.specs.Path.{PathValue}
use Rattle.bgp_path.specs.declared.as_path.SegmentKind.{SegmentKind}
use Rattle.bgp_path.specs.declared.as_path.SegmentKind.TheVariants.{Set, Sequence}
use Rattle.bgp_path.specs.declared.large_community.LargeCommunity.{LargeCommunity}
use Rattle.bgp_path.specs.declared.path.Aggregator.{Aggregator}
use Rattle.bgp_update.specs.declared.destination.Destination.{Destination}
use Rattle.bgp_text.specs.RouteText.{aggregator_text, as_path_text, cluster_text, community_text, extended_text, kind_text, list_text, number_text, optional_text, origin_number, route_text, router_text, segment_text}
use Rattle.bgp_visible_laws.proofs.Texts.{destination_visible, hop_visible}
use Rattle.bgp_answer_laws.proofs.Lines.{IsPlain, both, if_plain, nothing, word}
use Rattle.bgp_answer_laws.proofs.Plain.{encoded, plain}
use Rattle.bgp_answer_laws.proofs.Times.{address, number}

pub each : {X : Type 0} (text : X → List ℕ) → ((x : X) → IsPlain (text x)) → (xs : List X) → IsPlain (flat_map text xs)
each text is [] = nothing
each text is (x ∷ xs) = both (is x) (each text is xs)

joined : {X : Type 0} (octet : ℕ) → IsPlain (octet ∷ []) → (text : X → List ℕ) → ((x : X) → IsPlain (text x)) → (xs : List X) → IsPlain (join_with_byte octet (map text xs))
joined octet between text is [] = nothing
joined octet between text is (x ∷ []) = is x
joined octet between text is (x ∷ y ∷ xs) = both (is x) (both between (joined octet between text is (y ∷ xs)))

-- ---- an AS path

kind_plain : (kind : SegmentKind) (numbers : List ℕ) → IsPlain (kind_text kind numbers)
kind_plain Sequence numbers = joined 32 (word (codes " ") refl) decimal number numbers
kind_plain Set numbers = both (word (codes "{") refl) (both (joined 44 (word (codes ",") refl) decimal number numbers) (word (codes "}") refl))

segment_plain : (s : PathSegment) → IsPlain (segment_text s)
unfolding segment_text
segment_plain s = kind_plain s.kind s.numbers

as_path_plain : (segments : List PathSegment) → IsPlain (as_path_text segments)
unfolding as_path_text
as_path_plain [] = word (codes "-") refl
as_path_plain (s ∷ segments) = joined 32 (word (codes " ") refl) segment_text segment_plain (s ∷ segments)

-- ---- attributes

number_plain : (front : List ℕ) → IsPlain front → (its : Option ℕ) → IsPlain (number_text front its)
unfolding number_text
number_plain front first None = nothing
number_plain front first (Some n) = both first (number n)

router_plain : (front : List ℕ) → IsPlain front → (its : Option ℕ) → IsPlain (router_text front its)
unfolding router_text
router_plain front first None = nothing
router_plain front first (Some n) = both first (address (V4 n))

aggregator_plain : (its : Option Aggregator) → IsPlain (aggregator_text its)
unfolding aggregator_text
aggregator_plain None = nothing
aggregator_plain (Some a) = both (word (codes " aggregator ") refl) (both (number a.as_number) (both (word (codes " ") refl) (address (V4 a.address))))

list_plain : {X : Type 0} (front : List ℕ) → IsPlain front → (text : X → List ℕ) → ((x : X) → IsPlain (text x)) → (xs : List X) → IsPlain (list_text front text xs)
unfolding list_text
list_plain front first text is [] = nothing
list_plain front first text is (x ∷ xs) = both first (each (λ v. 32 ∷ text v) (λ v. both (word (codes " ") refl) (is v)) (x ∷ xs))

community_plain : (value : ℕ) → IsPlain (community_text value)
community_plain value = both (number (value / 65536)) (both (word (codes ":") refl) (number (value % 65536)))

large_plain : (c : LargeCommunity) → IsPlain (large_community_text c)
large_plain c =
    both (number c.global_administrator) (both (word (codes ":") refl) (both (number c.local_data_part_1) (both (word (codes ":") refl) (number c.local_data_part_2))))

optional_plain : (p : PathValue) → IsPlain (optional_text p)
unfolding optional_text
optional_plain p =
    both (number_plain (codes " med ") (word (codes " med ") refl) p.multi_exit_disc) (both (number_plain (codes " pref ") (word (codes " pref ") refl) p.local_pref)
    (both (if_plain p.atomic_aggregate (codes " atomic") [] (word (codes " atomic") refl) nothing) (both (aggregator_plain p.aggregator)
    (both (list_plain (codes " communities") (word (codes " communities") refl) community_text community_plain p.communities)
    (both (list_plain (codes " extended") (word (codes " extended") refl) extended_text (λ v. encoded (big_bytes 8 v)) p.extended_communities)
    (both (list_plain (codes " large") (word (codes " large") refl) large_community_text large_plain p.large_communities)
    (both (router_plain (codes " originator ") (word (codes " originator ") refl) p.originator_id)
    (list_plain (codes " clusters") (word (codes " clusters") refl) cluster_text (λ v. address (V4 v)) p.cluster_list))))))))

pub route_plain : (destination : Destination) (p : PathValue) → IsPlain (route_text destination p)
unfolding route_text
route_plain destination p =
    both (plain (destination_visible destination)) (both (word (codes " via ") refl) (both (plain (hop_visible p.next_hop)) (both (word (codes " path ") refl)
    (both (as_path_plain p.as_path) (both (word (codes " origin ") refl) (both (number (origin_number p.origin)) (optional_plain p)))))))
