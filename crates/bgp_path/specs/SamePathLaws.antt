-- The test of two paths is true exactly of equal values, which the laws of their `==` cite. Nothing
-- here has to be believed: it stands in specs/ since `ghost laws` may cite no proofs.
use Rattle.std.specs.Prelude.{◌≡◌, Bool, ◌==◌, nat_eq, List, Option, None, Some, Decides, refl}
use Rattle.std.proofs.Common.{ap}
use Rattle.std.specs.Option.{option_eq}
use Rattle.std.specs.Cmp.{IsEquivalence, IsPartialEquivalence, partial_equiv_from_equiv, decided}
use Rattle.std.specs.Cmp.{unsigned_Decides, booleans_Decides}
use Rattle.std.specs.Cmp.Lexicographic.{pointwise, bytes_decides, pointwise_decides}
use Rattle.std.proofs.lemmas.Bool.Decides.{Decides-and}
use Rattle.bgp_path.specs.declared.path.Origin.{Origin}
use Rattle.bgp_path.specs.declared.path.Origin.TheVariants.{Igp, Egp, Incomplete}
use Rattle.bgp_path.specs.declared.path.NextHop.{NextHop}
use Rattle.bgp_path.specs.declared.path.NextHop.TheVariants.{V4, V6, V6WithLinkLocal}
use Rattle.bgp_path.specs.declared.path.Aggregator.{Aggregator}
use Rattle.bgp_path.specs.declared.large_community.LargeCommunity.{LargeCommunity}
use Rattle.bgp_path.specs.LargeCommunities.{same_large_community}
use Rattle.bgp_path.specs.Path.{PathValue}
use Rattle.bgp_path.specs.SameLaws.{same_path_decides}
use Rattle.bgp_path.specs.SamePath.{same_origin, same_next_hop, same_aggregator}
use Rattle.bgp_path.specs.SamePath.{same_mandatory, same_optional, same_lists, same_value}

same_origin_decides : (x y : Origin) → Decides (same_origin x y) (x ≡ y)
same_origin_decides Igp Igp = (λ _. refl, λ _. refl)
same_origin_decides Igp Egp = (λ e. absurd cc, λ e. absurd cc)
same_origin_decides Igp Incomplete = (λ e. absurd cc, λ e. absurd cc)
same_origin_decides Egp Igp = (λ e. absurd cc, λ e. absurd cc)
same_origin_decides Egp Egp = (λ _. refl, λ _. refl)
same_origin_decides Egp Incomplete = (λ e. absurd cc, λ e. absurd cc)
same_origin_decides Incomplete Igp = (λ e. absurd cc, λ e. absurd cc)
same_origin_decides Incomplete Egp = (λ e. absurd cc, λ e. absurd cc)
same_origin_decides Incomplete Incomplete = (λ _. refl, λ _. refl)

same_next_hop_decides : (x y : NextHop) → Decides (same_next_hop x y) (x ≡ y)
same_next_hop_decides (V4 a) (V4 b) =
    let same = unsigned_Decides a b in
    (λ e. ap V4 (same.0 e), λ e. same.1 cc)
same_next_hop_decides (V4 a) (V6 b) = (λ e. absurd cc, λ e. absurd cc)
same_next_hop_decides (V4 a) (V6WithLinkLocal b d) = (λ e. absurd cc, λ e. absurd cc)
same_next_hop_decides (V6 a) (V4 b) = (λ e. absurd cc, λ e. absurd cc)
same_next_hop_decides (V6 a) (V6 b) =
    let same = unsigned_Decides a b in
    (λ e. ap V6 (same.0 e), λ e. same.1 cc)
same_next_hop_decides (V6 a) (V6WithLinkLocal b d) = (λ e. absurd cc, λ e. absurd cc)
same_next_hop_decides (V6WithLinkLocal a c) (V4 b) = (λ e. absurd cc, λ e. absurd cc)
same_next_hop_decides (V6WithLinkLocal a c) (V6 b) = (λ e. absurd cc, λ e. absurd cc)
same_next_hop_decides (V6WithLinkLocal a c) (V6WithLinkLocal b d) =
    let both = Decides-and (a == b) (c == d) (unsigned_Decides a b) (unsigned_Decides c d) in
    (λ e. let p = both.0 e in rw (p.0, p.1) refl, λ e. both.1 (cc, cc))

same_aggregator_decides : (x y : Aggregator) → Decides (same_aggregator x y) (x ≡ y)
same_aggregator_decides x y =
    let as_numbers = unsigned_Decides x.as_number y.as_number in
    let addresses = unsigned_Decides x.address y.address in
    let both = Decides-and _ _ as_numbers addresses in
    let parted = λ (e : x ≡ y). both.1 (λ i. (e i).as_number, λ i. (e i).address) in
    (λ e. let p = both.0 e in rw (p.0, p.1) refl, parted)

pub same_large_community_decides :
    (c d : LargeCommunity) → Decides (same_large_community c d) (c ≡ d)
same_large_community_decides c d =
    let globals = unsigned_Decides c.global_administrator d.global_administrator in
    let firsts = unsigned_Decides c.local_data_part_1 d.local_data_part_1 in
    let seconds = unsigned_Decides c.local_data_part_2 d.local_data_part_2 in
    let all = Decides-and _ _ globals (Decides-and _ _ firsts seconds) in
    let parted = λ (e : c ≡ d). all.1 (
      λ i. (e i).global_administrator,
      (λ i. (e i).local_data_part_1, λ i. (e i).local_data_part_2),
    ) in
    (λ e. let p = all.0 e in rw (p.0, p.1.0, p.1.1) refl, parted)

pub same_large_communities_decides :
    (cs ds : List LargeCommunity) → Decides (pointwise same_large_community cs ds) (cs ≡ ds)
same_large_communities_decides = pointwise_decides same_large_community_decides

option_decides : {T : Type 0} (test : T → T → Bool) → ((x y : T) → Decides (test x y) (x ≡ y))
    → (x y : Option T) → Decides (option_eq test x y) (x ≡ y)
option_decides test each None None = (λ _. refl, λ _. refl)
option_decides test each None (Some y) = (λ e. absurd cc, λ e. absurd cc)
option_decides test each (Some x) None = (λ e. absurd cc, λ e. absurd cc)
option_decides test each (Some x) (Some y) = (λ e. ap Some ((each x y).0 e), λ e. (each x y).1 cc)

-- what the three tests tell
abbrev SameMandatory : PathValue → PathValue → Type 0
SameMandatory a b = ((a.origin ≡ b.origin) × (a.next_hop ≡ b.next_hop)) × (a.as_path ≡ b.as_path)

abbrev SameOptional : PathValue → PathValue → Type 0
SameOptional a b =
    ((((a.multi_exit_disc ≡ b.multi_exit_disc) × (a.local_pref ≡ b.local_pref))
    × (a.atomic_aggregate ≡ b.atomic_aggregate)) × (a.aggregator ≡ b.aggregator))
    × (a.originator_id ≡ b.originator_id)

abbrev SameLists : PathValue → PathValue → Type 0
SameLists a b =
    (((a.communities ≡ b.communities) × (a.cluster_list ≡ b.cluster_list))
    × (a.extended_communities ≡ b.extended_communities))
    × (a.large_communities ≡ b.large_communities)

abbrev SameParts : PathValue → PathValue → Type 0
SameParts a b = (SameMandatory a b × SameOptional a b) × SameLists a b

mandatory_decides : (a b : PathValue) → Decides (same_mandatory a b) (SameMandatory a b)
mandatory_decides a b =
    let origins = same_origin_decides a.origin b.origin in
    let next_hops = same_next_hop_decides a.next_hop b.next_hop in
    Decides-and _ _ (Decides-and _ _ origins next_hops) (same_path_decides a.as_path b.as_path)

optional_decides : (a b : PathValue) → Decides (same_optional a b) (SameOptional a b)
optional_decides a b =
    let numbers = option_decides nat_eq unsigned_Decides in
    let discs = numbers a.multi_exit_disc b.multi_exit_disc in
    let two = Decides-and _ _ discs (numbers a.local_pref b.local_pref) in
    let three = Decides-and _ _ two (booleans_Decides a.atomic_aggregate b.atomic_aggregate) in
    let aggregators = option_decides same_aggregator same_aggregator_decides in
    let four = Decides-and _ _ three (aggregators a.aggregator b.aggregator) in
    Decides-and _ _ four (numbers a.originator_id b.originator_id)

lists_decide : (a b : PathValue) → Decides (same_lists a b) (SameLists a b)
lists_decide a b =
    let communities = bytes_decides a.communities b.communities in
    let clusters = bytes_decides a.cluster_list b.cluster_list in
    let extended = bytes_decides a.extended_communities b.extended_communities in
    let large = same_large_communities_decides a.large_communities b.large_communities in
    Decides-and _ _ (Decides-and _ _ (Decides-and _ _ communities clusters) extended) large

same_parts : (a b : PathValue) → Decides (same_value a b) (SameParts a b)
same_parts a b =
    let first_two = Decides-and _ _ (mandatory_decides a b) (optional_decides a b) in
    Decides-and _ _ first_two (lists_decide a b)

joined : (a b : PathValue) → SameParts a b → a ≡ b
joined a b p = λ i. record {
  origin = p.0.0.0.0 i;
  as_path = p.0.0.1 i;
  next_hop = p.0.0.0.1 i;
  multi_exit_disc = p.0.1.0.0.0.0 i;
  local_pref = p.0.1.0.0.0.1 i;
  atomic_aggregate = p.0.1.0.0.1 i;
  aggregator = p.0.1.0.1 i;
  communities = p.1.0.0.0 i;
  originator_id = p.0.1.1 i;
  cluster_list = p.1.0.0.1 i;
  extended_communities = p.1.0.1 i;
  large_communities = p.1.1 i;
}

parted : (a b : PathValue) → a ≡ b → SameParts a b
parted a b e =
    let mandatory : SameMandatory a b =
    ((λ i. (e i).origin, λ i. (e i).next_hop), λ i. (e i).as_path) in
    let optional : SameOptional a b = (
      (
        (
          (λ i. (e i).multi_exit_disc, λ i. (e i).local_pref),
          λ i. (e i).atomic_aggregate,
        ),
        λ i. (e i).aggregator,
      ),
      λ i. (e i).originator_id,
    ) in
    let lists : SameLists a b = (
      (
        (λ i. (e i).communities, λ i. (e i).cluster_list),
        λ i. (e i).extended_communities,
      ),
      λ i. (e i).large_communities,
    ) in
    ((mandatory, optional), lists)

pub same_value_decides : (a b : PathValue) → Decides (same_value a b) (a ≡ b)
same_value_decides a b =
    let parts = same_parts a b in
    (λ e. joined a b (parts.0 e), λ e. parts.1 (parted a b e))

pub same_value_equiv : IsEquivalence same_value
same_value_equiv = decided same_value same_value_decides

pub same_value_per : IsPartialEquivalence same_value
same_value_per = partial_equiv_from_equiv same_value_equiv
