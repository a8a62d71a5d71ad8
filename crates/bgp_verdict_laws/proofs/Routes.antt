-- Routes are read from their objects.
use Rattle.std.proofs.Common.{◌≡◌, ◌∙◌, ◌++◌, ◌<◌, ◌≤◌, ℕ, Bool, true, false, List, [], ◌∷◌, All, Option, None, Some, append-nil, append_assoc, codes, length, map, refl, sym, ap, ap₂, arith, if◌then◌else◌, flat_map}
use Rattle.std.specs.Fmt.{decimal}
use Rattle.std.specs.List.{join_with_byte}
use Rattle.std.proofs.lemmas.List.{length-append, length-map}
use Rattle.std.proofs.lemmas.List.Elements.{All-head, All-tail}
use Rattle.json.specs.Json.{Json, array, boolean, string}
use Rattle.bgp_prefix.specs.Text.{prefix_text}
use Rattle.bgp_path.specs.AsPath.{PathSegment}
use Rattle.bgp_path.specs.LargeCommunities.{large_community_text}
use Rattle.bgp_path.specs.Path.{PathValue}
use Rattle.bgp_path.specs.declared.as_path.SegmentKind.{SegmentKind}
use Rattle.bgp_path.specs.declared.as_path.SegmentKind.TheVariants.{Set, Sequence}
use Rattle.bgp_path.specs.declared.path.Aggregator.{Aggregator}
use Rattle.bgp_path.specs.declared.path.NextHop.{NextHop}
use Rattle.bgp_path.specs.declared.path.NextHop.TheVariants as hops
use Rattle.bgp_path.specs.declared.path.Origin.{Origin}
use Rattle.bgp_path.specs.declared.path.Origin.TheVariants as origins
use Rattle.bgp_update.specs.declared.destination.Destination.{Destination}
use Rattle.bgp_text.specs.RouteText.{aggregator_text, as_path_text, cluster_text, community_text, extended_text, kind_text, list_text, next_hop_text, number_text, optional_text, origin_number, route_text, router_text, segment_text}
use Rattle.bgp_text.specs.Text.{destination_text, path_id_text}
use Rattle.bgp_json_laws.specs.VerdictText.{route_line}
use Rattle.bgp_json_values.specs.Objects.{array_of, in_array, number_of}
use Rattle.bgp_json_values.specs.RoutesJson.{destination_json, hop_json}
use Rattle.bgp_json_verdicts.specs.Objects.{of_end}
use Rattle.bgp_json_verdicts.specs.RouteJson.{aggregator_json, aggregator_members, community_json, extended_json, kind_values, large_json, list_members, member_if, origin_text, path_members, path_values, route_members, router_json, router_members}
use Rattle.bgp_json_verdicts.specs.declared.telling.Counts.{Counts}
use Rattle.bgp_json_laws.proofs.Lookups.{listed, listed_back, text_of}
use Rattle.bgp_verdict_laws.specs.Laws.{IsFilled}
use Rattle.bgp_verdict_laws.proofs.Shapes.{IsMade, having, joined, nothing}
use Rattle.bgp_verdict_laws.proofs.Times.{number_json, number_made}
use Rattle.bgp_verdict_laws.proofs.Reading.{Route, aggregator_in, behind, hop_in, if_any, list_in, origin_in, path_in, plain, reads, step_in, values_in}

-- ---- members that may be absent

abbrev flag_json : Bool → Option Json
flag_json is_so = if is_so then Some (boolean true) else None

flag_made : (is_so : Bool) → IsMade (codes "atomic" ∷ []) (flag_json is_so ∷ []) (member_if is_so (codes "atomic") (boolean true))
flag_made true = record { is = refl; long = refl }
flag_made false = record { is = refl; long = refl }

flag_back : (is_so : Bool) → if_any (codes " atomic") (flag_json is_so) ≡ (if is_so then codes " atomic" else [])
flag_back true = refl
flag_back false = refl

abbrev aggregator_if : Option Aggregator → Option Json
aggregator_if None = None
aggregator_if (Some a) = Some (aggregator_json a)

aggregator_made : (a : Option Aggregator) → IsMade (codes "aggregator" ∷ []) (aggregator_if a ∷ []) (aggregator_members a)
aggregator_made None = record { is = refl; long = refl }
aggregator_made (Some a) = record { is = refl; long = refl }

aggregator_back : (a : Option Aggregator) → aggregator_in (aggregator_if a) ≡ aggregator_text a
unfolding aggregator_text
aggregator_back None = refl
aggregator_back (Some a) = refl

abbrev router_if : Option ℕ → Option Json
router_if None = None
router_if (Some number) = Some (router_json number)

router_made : (name : List ℕ) (number : Option ℕ) → IsMade (name ∷ []) (router_if number ∷ []) (router_members name number)
router_made name None = record { is = refl; long = refl }
router_made name (Some number) = record { is = refl; long = refl }

router_back : (word : List ℕ) (number : Option ℕ) → behind word (router_if number) ≡ router_text word number
unfolding router_text
router_back word None = refl
router_back word (Some number) = refl

number_back : (word : List ℕ) (number : Option ℕ) → behind word (number_json number) ≡ number_text word number
unfolding number_text
number_back word None = refl
number_back word (Some number) = refl

id_back : (id : Option ℕ) → behind (codes "#") (number_json id) ≡ path_id_text id
unfolding path_id_text
id_back None = refl
id_back (Some id) = refl

abbrev list_if : {X : Type 0} → (X → Json) → List X → Option Json
list_if json [] = None
list_if json (x ∷ xs) = Some (array_of json (x ∷ xs))

list_made : {X : Type 0} (name : List ℕ) (json : X → Json) (xs : List X) → IsMade (name ∷ []) (list_if json xs ∷ []) (list_members name json xs)
list_made name json [] = record { is = refl; long = refl }
list_made name json (x ∷ xs) = record { is = refl; long = refl }

each_back : {X : Type 0} (json : X → Json) (text : X → List ℕ) → ((x : X) → text_of (json x) ≡ text x) → (xs : List X)
    → flat_map (λ (v : Json). 32 ∷ text_of v) (map json xs) ≡ flat_map (λ (v : X). 32 ∷ text v) xs
each_back json text same [] = refl
each_back json text same (x ∷ xs) = ap₂ (λ (t rest : List ℕ). (32 ∷ t) ++ rest) (same x) (each_back json text same xs)

list_back : {X : Type 0} (word : List ℕ) (json : X → Json) (text : X → List ℕ) → ((x : X) → text_of (json x) ≡ text x) → (xs : List X)
    → values_in word (list_if json xs) ≡ list_text word text xs
unfolding list_text
list_back word json text same [] = refl
list_back word json text same (x ∷ xs) =
    ap (list_text word text_of) (listed_back (map json (x ∷ xs)))
    ∙ ap (λ (t : List ℕ). word ++ t) (each_back json text same (x ∷ xs))

-- ---- next hop and origin

hop_back : (hop : NextHop) → hop_in (list_in (Some (hop_json hop))) ≡ next_hop_text hop
unfolding next_hop_text
hop_back (hops.V4 number) = refl
hop_back (hops.V6 number) = refl
hop_back (hops.V6WithLinkLocal number local) = refl

origin_back : (origin : Origin) → origin_in (origin_text origin) ≡ decimal (origin_number origin)
origin_back origins.Igp = refl
origin_back origins.Egp = refl
origin_back origins.Incomplete = refl

-- ---- the AS path

joins : (between : ℕ) (xs ys : List (List ℕ)) → 0 < length xs → 0 < length ys
    → join_with_byte between (xs ++ ys) ≡ join_with_byte between xs ++ (between ∷ join_with_byte between ys)
joins between [] ys some also = absurd (omega arith)
joins between (x ∷ xs) [] some also = absurd (omega arith)
joins between (x ∷ []) (y ∷ ys) some also = refl
joins between (x ∷ next ∷ xs) (y ∷ ys) some also =
    ap (λ (t : List ℕ). x ++ (between ∷ t)) (joins between (next ∷ xs) (y ∷ ys) (omega arith) (omega arith))
    ∙ sym (append_assoc x (between ∷ join_with_byte between (next ∷ xs)) (between ∷ join_with_byte between (y ∷ ys)))

sequence_steps : (numbers : List ℕ) → map step_in (kind_values Sequence numbers) ≡ map decimal numbers
sequence_steps [] = refl
sequence_steps (n ∷ numbers) = ap (λ (l : List (List ℕ)). decimal n ∷ l) (sequence_steps numbers)

set_steps : (numbers : List ℕ) → map text_of (listed (in_array (map number_of numbers))) ≡ map decimal numbers
set_steps [] = refl
set_steps (n ∷ numbers) = ap (λ (l : List (List ℕ)). decimal n ∷ l) (set_steps numbers)

steps_back : (kind : SegmentKind) (numbers : List ℕ) → join_with_byte 32 (map step_in (kind_values kind numbers)) ≡ kind_text kind numbers
steps_back Sequence numbers = ap (join_with_byte 32) (sequence_steps numbers)
steps_back Set numbers = ap (λ (l : List (List ℕ)). codes "{" ++ (join_with_byte 44 l ++ codes "}")) (set_steps numbers)

some_values : (kind : SegmentKind) (numbers : List ℕ) → 1 ≤ length numbers → 0 < length (kind_values kind numbers)
some_values Sequence [] some = absurd (omega arith)
some_values Sequence (n ∷ numbers) some = omega arith
some_values Set numbers some = omega arith

some_steps : (segment : PathSegment) (segments : List PathSegment) → IsFilled segment → 0 < length (map step_in (path_values (segment ∷ segments)))
some_steps segment segments some =
    let first = some_values segment.kind segment.numbers some in
    omega (arith, first, length-map (path_values (segment ∷ segments)) step_in, length-append (kind_values segment.kind segment.numbers) (path_values segments))

map_both : {X Y : Type 0} (f : X → Y) (xs ys : List X) → map f (xs ++ ys) ≡ map f xs ++ map f ys
map_both f [] ys = refl
map_both {Y = Y} f (x ∷ xs) ys = ap (λ (l : List Y). f x ∷ l) (map_both f xs ys)

segments_back : (segments : List PathSegment) → All IsFilled segments → join_with_byte 32 (map step_in (path_values segments)) ≡ join_with_byte 32 (map segment_text segments)
unfolding segment_text
segments_back [] all = refl
segments_back (s ∷ []) all =
    ap (λ (l : List Json). join_with_byte 32 (map step_in l)) (append-nil (kind_values s.kind s.numbers)) ∙ steps_back s.kind s.numbers
segments_back (s ∷ t ∷ segments) all =
    let rest = All-tail IsFilled s (t ∷ segments) all in
    let first = some_values s.kind s.numbers (All-head IsFilled s (t ∷ segments) all) in
    ap (join_with_byte 32) (map_both step_in (kind_values s.kind s.numbers) (path_values (t ∷ segments)))
    ∙ joins 32 (map step_in (kind_values s.kind s.numbers)) (map step_in (path_values (t ∷ segments))) (omega (arith, first, length-map (kind_values s.kind s.numbers) step_in))
    (some_steps t segments (All-head IsFilled t segments rest))
    ∙ ap₂ (λ (a b : List ℕ). a ++ (32 ∷ b)) (steps_back s.kind s.numbers) (segments_back (t ∷ segments) rest)

some_path : (values : List Json) → 0 < length (map step_in values) → path_in values ≡ join_with_byte 32 (map step_in values)
some_path [] some = absurd (omega arith)
some_path (v ∷ values) some = refl

path_back : (segments : List PathSegment) → All IsFilled segments → path_in (list_in (Some (array (in_array (path_values segments))))) ≡ as_path_text segments
unfolding as_path_text
path_back [] all = refl
path_back (s ∷ segments) all =
    ap path_in (listed_back (path_values (s ∷ segments)))
    ∙ some_path (path_values (s ∷ segments)) (some_steps s segments (All-head IsFilled s segments all))
    ∙ segments_back (s ∷ segments) all

-- ---- the whole

module _ (p : PathValue) where
  abbrev optional_of : List ℕ
  optional_of =
      behind (codes " med ") (number_json p.multi_exit_disc)
      ++ (behind (codes " pref ") (number_json p.local_pref)
      ++ (if_any (codes " atomic") (flag_json p.atomic_aggregate)
      ++ (aggregator_in (aggregator_if p.aggregator)
      ++ (values_in (codes " communities") (list_if community_json p.communities)
      ++ (values_in (codes " extended") (list_if extended_json p.extended_communities)
      ++ (values_in (codes " large") (list_if large_json p.large_communities)
      ++ (behind (codes " originator ") (router_if p.originator_id)
      ++ values_in (codes " clusters") (list_if router_json p.cluster_list))))))))

  optional_back : optional_of ≡ optional_text p
  unfolding optional_text
  optional_back =
      ap₂ ◌++◌ (number_back (codes " med ") p.multi_exit_disc)
      (ap₂ ◌++◌ (number_back (codes " pref ") p.local_pref)
      (ap₂ ◌++◌ (flag_back p.atomic_aggregate)
      (ap₂ ◌++◌ (aggregator_back p.aggregator)
      (ap₂ ◌++◌ (list_back (codes " communities") community_json community_text (λ v. refl) p.communities)
      (ap₂ ◌++◌ (list_back (codes " extended") extended_json extended_text (λ v. refl) p.extended_communities)
      (ap₂ ◌++◌ (list_back (codes " large") large_json large_community_text (λ v. refl) p.large_communities)
      (ap₂ ◌++◌ (router_back (codes " originator ") p.originator_id)
      (list_back (codes " clusters") router_json cluster_text (λ v. refl) p.cluster_list))))))))

  path_made : IsMade (codes "next_hop" ∷ codes "path" ∷ codes "origin" ∷ codes "med" ∷ codes "pref" ∷ codes "atomic" ∷ codes "aggregator" ∷ codes "communities" ∷ codes "extended" ∷ codes "large" ∷ codes "originator" ∷ codes "clusters" ∷ [])
      (Some (hop_json p.next_hop) ∷ Some (array (in_array (path_values p.as_path))) ∷ Some (string (origin_text p.origin)) ∷ number_json p.multi_exit_disc ∷ number_json p.local_pref ∷ flag_json p.atomic_aggregate ∷ aggregator_if p.aggregator ∷ list_if community_json p.communities ∷ list_if extended_json p.extended_communities ∷ list_if large_json p.large_communities ∷ router_if p.originator_id ∷ list_if router_json p.cluster_list ∷ [])
      (path_members p)
  path_made = joined (having (codes "next_hop") (hop_json p.next_hop)
      (having (codes "path") (array (in_array (path_values p.as_path))) (having (codes "origin") (string (origin_text p.origin)) nothing)))
      (joined (joined (number_made (codes "med") p.multi_exit_disc) (joined (number_made (codes "pref") p.local_pref)
      (joined (flag_made p.atomic_aggregate) (aggregator_made p.aggregator))))
      (joined (joined (list_made (codes "communities") community_json p.communities) (joined (list_made (codes "extended") extended_json p.extended_communities)
      (list_made (codes "large") large_json p.large_communities)))
      (joined (router_made (codes "originator") p.originator_id) (list_made (codes "clusters") router_json p.cluster_list))))

  pub route_reads : (counts : Counts) (destination : Destination) → All IsFilled p.as_path
      → plain (of_end (codes "route") counts (route_members destination p)) ≡ route_line (destination, p)
  unfolding route_line route_text destination_text
  route_reads counts destination all =
      reads Route _ _ (having (codes "judged") (number_of counts.judged) (having (codes "end") (number_of counts.end)
      (joined (having (codes "prefix") (destination_json destination) (number_made (codes "path_id") destination.path)) path_made)))
      ∙ ap₂ (λ (id hop : List ℕ). codes "route " ++ (((prefix_text destination.prefix ++ id) ++ (codes " via " ++ (hop
      ++ (codes " path " ++ (path_in (list_in (Some (array (in_array (path_values p.as_path))))) ++ (codes " origin " ++ (origin_in (origin_text p.origin)
      ++ optional_of))))))) ++ codes "\n"))
      (id_back destination.path) (hop_back p.next_hop)
      ∙ ap₂ (λ (path origin : List ℕ). codes "route " ++ ((destination_text destination ++ (codes " via " ++ (next_hop_text p.next_hop
      ++ (codes " path " ++ (path ++ (codes " origin " ++ (origin ++ optional_of))))))) ++ codes "\n"))
      (path_back p.as_path all) (origin_back p.origin)
      ∙ ap (λ (optional : List ℕ). codes "route " ++ ((destination_text destination ++ (codes " via " ++ (next_hop_text p.next_hop
      ++ (codes " path " ++ (as_path_text p.as_path ++ (codes " origin " ++ (decimal (origin_number p.origin) ++ optional))))))) ++ codes "\n"))
      optional_back
