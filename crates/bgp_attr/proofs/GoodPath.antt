-- Each attribute that is written for a path is of class Good.
use Rattle.std.proofs.Common.{◌≡◌, ℕ, ◌*◌, ◌%◌, ◌<◌, ◌≤◌, Bool, true, false, not, ◌&&◌, nat_lt, if◌then◌else◌, bit_or, List, [], ◌∷◌, length, map, All, Option, None, Some, IfSome, option_map, refl, sym, ap, ◌∙◌, arith, inl, inr}
use Rattle.std.specs.List.{flat_map}
use Rattle.std.proofs.lemmas.Bool.{cases_Bool, lt-ltb, ne_eqb, eq-eqb}
use Rattle.std.proofs.lemmas.List.Elements.{All-nil, All-cons, All-head, All-tail}
use Rattle.byteorder.specs.Endian.{big_bytes}
use Rattle.byteorder.specs.Numbers.{length-bytes_high_first}
use Rattle.bgp_path.specs.declared.as_path.SegmentKind.{SegmentKind}
use Rattle.bgp_path.specs.declared.as_path.SegmentKind.TheVariants.{Set, Sequence}
use Rattle.bgp_attr.specs.declared.classes.AttrVerdict.{AttrVerdict}
use Rattle.bgp_attr.specs.declared.classes.AttrVerdict.TheVariants.{Good, Withdraw}
use Rattle.bgp_attr.specs.declared.classes.Side.{Side}
use Rattle.bgp_path.specs.declared.path.Aggregator.{Aggregator}
use Rattle.bgp_path.specs.declared.path.NextHop.{NextHop}
use Rattle.bgp_path.specs.declared.path.NextHop.TheVariants.{V4, V6, V6WithLinkLocal}
use Rattle.bgp_path.specs.declared.path.Origin.{Origin}
use Rattle.bgp_path.specs.declared.path.Origin.TheVariants.{Igp, Egp, Incomplete}
use Rattle.bgp_attr.specs.declared.types.AttrType.{AttrType}
use Rattle.bgp_attr.specs.declared.types.AttrType.TheVariants as types
use Rattle.bgp_path.specs.AsPath.{PathSegment, IsPathSegment}
use Rattle.bgp_attr.specs.Class.{class_by, class_of, strongest, value_rows, are_items}
use Rattle.bgp_path.specs.Path.{PathValue}
use Rattle.bgp_path.specs.declared.large_community.LargeCommunity.{LargeCommunity}
use Rattle.bgp_attr.specs.LargeCommunities.{large_community_octets, large_communities_octets}
use Rattle.bgp_attr.specs.Segments.{IsSegment, segment_octets, are_segments}
use Rattle.bgp_attr.specs.Types.{type_bits, has_bits_of, is_multiprotocol}
use Rattle.bgp_wire.specs.AsNumber.{needs_four_octets}
use Rattle.bgp_attr.specs.Values.{as_octets, wire_segment, as_path_octets, aggregator_octets, items_octets}
use Rattle.bgp_attr.specs.Writing.{has_large, origin_number, next_hop_octets, as4_aggregator_octets, value_in, flags_for, attribute_with}
use Rattle.bgp_path.specs.Fit.{IsFit}
use Rattle.bgp_attr.specs.ReadBack.{IsForPeer}
use Rattle.bgp_attr.proofs.GoodRows.{type_back}
use Rattle.bgp_attr.proofs.Lengths.{flat_len}
use Rattle.bgp_attr.proofs.WholeSegments.{tells}

-- ---- the flags

-- the bits of the type, with Extended Length and without
abbrev HasOwnBits : AttrType → Type 0
HasOwnBits t = (has_bits_of (bit_or (type_bits t) 16) t ≡ true) × (has_bits_of (type_bits t) t ≡ true)

own_bits : (t : AttrType) → HasOwnBits t
own_bits types.Origin = (refl, refl)
own_bits types.AsPath = (refl, refl)
own_bits types.NextHop = (refl, refl)
own_bits types.MultiExitDisc = (refl, refl)
own_bits types.LocalPref = (refl, refl)
own_bits types.AtomicAggregate = (refl, refl)
own_bits types.Aggregator = (refl, refl)
own_bits types.Communities = (refl, refl)
own_bits types.OriginatorId = (refl, refl)
own_bits types.ClusterList = (refl, refl)
own_bits types.MpReachNlri = (refl, refl)
own_bits types.MpUnreachNlri = (refl, refl)
own_bits types.ExtendedCommunities = (refl, refl)
own_bits types.As4Path = (refl, refl)
own_bits types.As4Aggregator = (refl, refl)
own_bits types.LargeCommunities = (refl, refl)

bits_good : (t : AttrType) (n : ℕ) → has_bits_of (flags_for t n) t ≡ true
bits_good t n = elim (cases_Bool (nat_lt 255 n)) [
  | inl e ↦ rw e (own_bits t).0
  | inr e ↦ rw e (own_bits t).1
]

right_row : (right : Bool) (rows : List (Bool × AttrVerdict)) → right ≡ true → strongest ((not right, Withdraw) ∷ rows) ≡ strongest rows
right_row right rows e = rw e refl

-- the class is that of the value
pub class_by_value : (side : Side) (t : AttrType) (value : List ℕ) → is_multiprotocol t ≡ false → strongest (value_rows side t value) ≡ Good → class_of side (attribute_with t value) ≡ Some Good
class_by_value side t value other h =
    let a = attribute_with t value in
    ap (class_by side a) (type_back t)
    ∙ rw other (ap Some (right_row (has_bits_of a.flags t) (value_rows side t value) (bits_good t (length value)) ∙ h))

-- ---- the values

abbrev IsGoodValue : Side → AttrType → List ℕ → Type 0
IsGoodValue side t value = strongest (value_rows side t value) ≡ Good

on_option : {A : Type 0} (P : List ℕ → Type 0) (f : A → List ℕ) (x : Option A) → ((a : A) → P (f a)) → IfSome (option_map f x) P
on_option P f None each = tt
on_option P f (Some a) each = each a

origin_good : (side : Side) (origin : Origin) → IsGoodValue side types.Origin (origin_number origin ∷ [])
origin_good side Igp = refl
origin_good side Egp = refl
origin_good side Incomplete = refl

-- the written segments are segments
wire_is : (as4 : Bool) (most width : ℕ) → 2 ≤ most → ((n : ℕ) → length (as_octets as4 n) ≡ width) → (kind : SegmentKind) (numbers : List ℕ) → 1 ≤ length numbers
    → IsSegment most width (wire_segment as4 (record { kind = kind; numbers = numbers }))
wire_is as4 most width two each Set numbers some = record { least = omega arith; greatest = omega arith; some = some; whole = flat_len (as_octets as4) width each numbers }
wire_is as4 most width two each Sequence numbers some = record { least = omega arith; greatest = omega arith; some = some; whole = flat_len (as_octets as4) width each numbers }

all_wire : (as4 : Bool) (most width : ℕ) → 2 ≤ most → ((n : ℕ) → length (as_octets as4 n) ≡ width) → (path : List PathSegment) → All IsPathSegment path
    → All (IsSegment most width) (map (wire_segment as4) path)
all_wire as4 most width two each [] segments = All-nil (IsSegment most width)
all_wire as4 most width two each (s ∷ path) segments =
    All-cons (IsSegment most width) (wire_segment as4 s) (map (wire_segment as4) path)
    (wire_is as4 most width two each s.kind s.numbers (All-head IsPathSegment s path segments).some)
    (all_wire as4 most width two each path (All-tail IsPathSegment s path segments))

mapped : (as4 : Bool) (path : List PathSegment) → flat_map segment_octets (map (wire_segment as4) path) ≡ as_path_octets as4 path
mapped as4 [] = refl
mapped as4 (s ∷ path) = rw (mapped as4 path) refl

path_is : (as4 : Bool) (most width : ℕ) → 2 ≤ most → ((n : ℕ) → length (as_octets as4 n) ≡ width) → (path : List PathSegment) → All IsPathSegment path
    → are_segments most width (as_path_octets as4 path) ≡ true
path_is as4 most width two each path segments =
    ap (are_segments most width) (sym (mapped as4 path)) ∙ tells most width (map (wire_segment as4) path) (all_wire as4 most width two each path segments)

two_octets : (n : ℕ) → length (as_octets false n) ≡ 2
two_octets n = refl

as_path_good_by : (as4 internal : Bool) (path : List PathSegment) → All IsPathSegment path → IsGoodValue (record { as4 = as4; internal = internal }) types.AsPath (as_path_octets as4 path)
as_path_good_by true internal path segments = rw (path_is true 2 4 (omega arith) (length-bytes_high_first 4) path segments) refl
as_path_good_by false internal path segments = rw (path_is false 2 2 (omega arith) two_octets path segments) refl

aggregator_good : (as4 internal : Bool) (a : Aggregator) → IsGoodValue (record { as4 = as4; internal = internal }) types.Aggregator (aggregator_octets as4 a)
aggregator_good true internal a = refl
aggregator_good false internal a = refl

as4_aggregator_good : (as4 internal : Bool) (a : Option Aggregator) → IfSome (as4_aggregator_octets as4 a) (IsGoodValue (record { as4 = as4; internal = internal }) types.As4Aggregator)
as4_aggregator_good as4 internal None = tt
as4_aggregator_good true internal (Some a) = tt
as4_aggregator_good false internal (Some a) = elim (cases_Bool (needs_four_octets a.as_number)) [
  | inl e ↦ rw e refl
  | inr e ↦ rw e tt
]

as4_path_good : (as4 internal : Bool) (path : List PathSegment) → All IsPathSegment path
    → IfSome (if not as4 && has_large path then Some (as_path_octets true path) else None) (IsGoodValue (record { as4 = as4; internal = internal }) types.As4Path)
as4_path_good true internal path segments = tt
as4_path_good false internal [] segments = tt
as4_path_good false internal (s ∷ path) segments = elim (cases_Bool (has_large (s ∷ path))) [
  | inl e ↦ rw (e, lt-ltb 0 (length (as_path_octets true (s ∷ path))) (omega arith), path_is true 4 4 (omega arith) (length-bytes_high_first 4) (s ∷ path) segments) refl
  | inr e ↦ rw e tt
]

-- lists of numbers
items_are : (size : ℕ) (n : ℕ) (items : List ℕ) → 0 < size → ((k : ℕ) → size * k % size ≡ 0) → are_items size (flat_map (big_bytes size) (n ∷ items)) ≡ true
items_are size n items some divides =
    let octets = flat_map (big_bytes size) (n ∷ items) in
    let long = flat_len (big_bytes size) size (length-bytes_high_first size) (n ∷ items) in
    let many : 0 < length octets = omega (arith, long) in
    let whole : length octets % size ≡ 0 = ap (λ (k : ℕ). k % size) long ∙ divides (length (n ∷ items)) in
    rw (lt-ltb 0 (length octets) many, eq-eqb (length octets % size) 0 whole) refl

four : (k : ℕ) → 4 * k % 4 ≡ 0
four k = omega arith

eight : (k : ℕ) → 8 * k % 8 ≡ 0
eight k = omega arith

items_good : (size : ℕ) (P : List ℕ → Type 0) (items : List ℕ) → 0 < size → ((k : ℕ) → size * k % size ≡ 0)
    → ((octets : List ℕ) → are_items size octets ≡ true → P octets) → IfSome (items_octets size items) P
items_good size P [] some divides each = tt
items_good size P (n ∷ items) some divides each =
    rw (ne_eqb (length (n ∷ items)) 0 (λ e. absurd (omega arith)))
    (each (flat_map (big_bytes size) (n ∷ items)) (items_are size n items some divides))

twelve : (k : ℕ) → 12 * k % 12 ≡ 0
twelve k = omega arith

twelve_each : (c : LargeCommunity) → length (large_community_octets c) ≡ 12
twelve_each c = refl

large_good : (side : Side) (cs : List LargeCommunity) → IfSome (large_communities_octets cs) (IsGoodValue side types.LargeCommunities)
large_good side [] = tt
large_good side (c ∷ cs) =
    let octets = flat_map large_community_octets (c ∷ cs) in
    let long = flat_len large_community_octets 12 twelve_each (c ∷ cs) in
    let many : 0 < length octets = omega (arith, long) in
    let whole : length octets % 12 ≡ 0 = ap (λ (k : ℕ). k % 12) long ∙ twelve (length (c ∷ cs)) in
    rw (ne_eqb (length (c ∷ cs)) 0 (λ e. absurd (omega arith)), lt-ltb 0 (length octets) many, eq-eqb (length octets % 12) 0 whole) refl

communities_good : (side : Side) (octets : List ℕ) → are_items 4 octets ≡ true → IsGoodValue side types.Communities octets
communities_good side octets e = rw e refl

extended_good : (side : Side) (octets : List ℕ) → are_items 8 octets ≡ true → IsGoodValue side types.ExtendedCommunities octets
extended_good side octets e = rw e refl

cluster_good : (side : Side) → side.internal ≡ true → (octets : List ℕ) → are_items 4 octets ≡ true → IsGoodValue side types.ClusterList octets
cluster_good side inside octets e = rw (inside, e) refl

flag_good : (side : Side) (b : Bool) → IfSome (if b then Some [] else None) (IsGoodValue side types.AtomicAggregate)
flag_good side true = refl
flag_good side false = tt

next_hop_good : (side : Side) (hop : NextHop) → IfSome (next_hop_octets hop) (IsGoodValue side types.NextHop)
next_hop_good side (V4 a) = refl
next_hop_good side (V6 a) = tt
next_hop_good side (V6WithLinkLocal a b) = tt

-- LOCAL_PREF, ORIGINATOR_ID and CLUSTER_LIST stand for an internal peer alone
pub good_value : (side : Side) (p : PathValue) → IsFit p → IsForPeer side p → (t : AttrType) → IfSome (value_in side p t) (IsGoodValue side t)
good_value side p fits peer types.Origin = origin_good side p.origin
good_value side p fits peer types.AsPath = as_path_good_by side.as4 side.internal p.as_path fits.segments
good_value side p fits peer types.NextHop = next_hop_good side p.next_hop
good_value side p fits peer types.MultiExitDisc = on_option (IsGoodValue side types.MultiExitDisc) (big_bytes 4) p.multi_exit_disc (λ n. refl)
good_value side p fits (inl inside, distinct) types.LocalPref = on_option (IsGoodValue side types.LocalPref) (big_bytes 4) p.local_pref (λ n. rw inside refl)
good_value side p fits (inr none, distinct) types.LocalPref = rw none.0 tt
good_value side p fits peer types.AtomicAggregate = flag_good side p.atomic_aggregate
good_value side p fits peer types.Aggregator = on_option (IsGoodValue side types.Aggregator) (aggregator_octets side.as4) p.aggregator (aggregator_good side.as4 side.internal)
good_value side p fits peer types.Communities = items_good 4 (IsGoodValue side types.Communities) p.communities (omega arith) four (communities_good side)
good_value side p fits (inl inside, distinct) types.OriginatorId = on_option (IsGoodValue side types.OriginatorId) (big_bytes 4) p.originator_id (λ n. rw inside refl)
good_value side p fits (inr none, distinct) types.OriginatorId = rw none.1 tt
good_value side p fits (inl inside, distinct) types.ClusterList = items_good 4 (IsGoodValue side types.ClusterList) p.cluster_list (omega arith) four (cluster_good side inside)
good_value side p fits (inr none, distinct) types.ClusterList = rw none.2 tt
good_value side p fits peer types.MpReachNlri = tt
good_value side p fits peer types.MpUnreachNlri = tt
good_value side p fits peer types.ExtendedCommunities = items_good 8 (IsGoodValue side types.ExtendedCommunities) p.extended_communities (omega arith) eight (extended_good side)
good_value side p fits peer types.As4Path = as4_path_good side.as4 side.internal p.as_path fits.segments
good_value side p fits peer types.As4Aggregator = as4_aggregator_good side.as4 side.internal p.aggregator
good_value side p fits peer types.LargeCommunities = large_good side p.large_communities
