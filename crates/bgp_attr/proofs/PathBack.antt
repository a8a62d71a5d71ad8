-- What is written for a path is read back as it.
use Rattle.std.proofs.Common.{◌≡◌, ℕ, zero, suc, ◌+◌, ◌-◌, ◌*◌, ◌/◌, ◌^◌, ◌<◌, ◌≤◌, Bool, true, false, not, ◌&&◌, ◌||◌, if◌then◌else◌, List, [], ◌∷◌, ◌++◌, length, take, drop, map, All, Option, None, Some, IfSome, option_map, is_some, refl, sym, ap, ◌∙◌, append_assoc, arith, inl, inr}
use Rattle.std.specs.List.{flat_map, filter_map, list_any, IsDistinct}
use Rattle.std.proofs.lemmas.Bool.{cases_Bool, le-ltb, ne_eqb, ltb-false}
use Rattle.std.proofs.lemmas.List.{append-nil, length-append, drop-drop}
use Rattle.std.proofs.lemmas.List.Elements.{All-nil, All-cons, All-head, All-tail}
use Rattle.std.proofs.lemmas.List.Sums.{sum_by-cons}
use Rattle.std.proofs.Math.Seq.{take-append_seam, drop-append_seam}
use Rattle.byteorder.specs.Endian.{big_bytes, big_number}
use Rattle.byteorder.specs.Numbers.{big_number-reads_back, length-bytes_high_first}
use Rattle.bgp_path.specs.declared.as_path.SegmentKind.{SegmentKind}
use Rattle.bgp_path.specs.declared.as_path.SegmentKind.TheVariants.{Set, Sequence}
use Rattle.bgp_path.specs.declared.path.Aggregator.{Aggregator}
use Rattle.bgp_path.specs.declared.path.Origin.{Origin}
use Rattle.bgp_path.specs.declared.path.Origin.TheVariants.{Igp, Egp, Incomplete}
use Rattle.bgp_attr.specs.declared.classes.Side.{Side}
use Rattle.bgp_path.specs.AsPath.{PathSegment, IsPathSegment, weight_of, weight, count_of, leading_part, merge_of}
use Rattle.bgp_path.specs.LargeCommunities.{same_large_community}
use Rattle.bgp_path.specs.Path.{PathValue}
use Rattle.bgp_attr.specs.Segments.{WireSegment, IsSegment, segment_octets}
use Rattle.bgp_wire.specs.AsNumber.{needs_four_octets}
use Rattle.bgp_attr.specs.Values.{as_octets, segment_type, wire_segment, as_path_octets, aggregator_octets, items_octets}
use Rattle.bgp_attr.specs.Writing.{has_large, origin_number, as4_aggregator_octets, value_in}
use Rattle.bgp_attr.specs.Numbers.{numbers_in, items_from}
use Rattle.bgp_attr.specs.PathIn.{segments_in, ReadsSegments, path_segment, path_in}
use Rattle.bgp_attr.specs.PathFrom.{aggregator_in, is_as4_old, merged_aggregator, merged_path, origin_from, path_from}
use Rattle.bgp_path.specs.Fit.{IsFit}
use Rattle.bgp_attr.proofs.LargeCommunities.{large_back}
use Rattle.bgp_attr.proofs.Lengths.{flat_len}

-- ---- numbers

numbers_back : (size : ℕ) (numbers rest : List ℕ) → All (λ n. n < 256 ^ size) numbers
    → numbers_in (length numbers) size (flat_map (big_bytes size) numbers ++ rest) ≡ numbers
numbers_back size [] rest each = refl
numbers_back size (n ∷ numbers) rest each =
    let after = flat_map (big_bytes size) numbers ++ rest in
    let joined : flat_map (big_bytes size) (n ∷ numbers) ++ rest ≡ big_bytes size n ++ after = append_assoc (big_bytes size n) (flat_map (big_bytes size) numbers) rest in
    let first : big_number size (big_bytes size n ++ after) ≡ n = big_number-reads_back size n after (All-head (λ m. m < 256 ^ size) n numbers each) in
    let gone : drop size (big_bytes size n ++ after) ≡ after =
    ap (λ (k : ℕ). drop k (big_bytes size n ++ after)) (sym (length-bytes_high_first size n)) ∙ drop-append_seam (big_bytes size n) after in
    rw (joined, first, gone, numbers_back size numbers rest (All-tail (λ m. m < 256 ^ size) n numbers each)) refl

pub length-numbers_in : (count size : ℕ) (octets : List ℕ) → length (numbers_in count size octets) ≡ count
length-numbers_in zero size octets = refl
length-numbers_in (suc count) size octets = ap suc (length-numbers_in count size (drop size octets))

four : (k : ℕ) → 4 * k / 4 ≡ k
four k = omega arith

eight : (k : ℕ) → 8 * k / 8 ≡ k
eight k = omega arith

items_back : (size : ℕ) (items : List ℕ) → ((k : ℕ) → size * k / size ≡ k) → All (λ n. n < 256 ^ size) items → items_from size (items_octets size items) ≡ items
items_back size [] divides each = refl
items_back size (n ∷ items) divides each =
    let octets = flat_map (big_bytes size) (n ∷ items) in
    let many : length octets / size ≡ length (n ∷ items) =
    ap (λ (k : ℕ). k / size) (flat_len (big_bytes size) size (length-bytes_high_first size) (n ∷ items)) ∙ divides (length (n ∷ items)) in
    rw (ne_eqb (length (n ∷ items)) 0 (λ e. absurd (omega arith))) (ap (λ (k : ℕ). numbers_in k size octets) many
    ∙ ap (numbers_in (length (n ∷ items)) size) (sym (append-nil octets))
    ∙ numbers_back size (n ∷ items) [] each)

-- ---- segments

segments_back : (as4 : Bool) (width : ℕ) → ((n : ℕ) → length (as_octets as4 n) ≡ width) → (path : List PathSegment) (fuel : ℕ)
    → length (as_path_octets as4 path) ≤ fuel → segments_in fuel width (as_path_octets as4 path) ≡ map (wire_segment as4) path
segments_back as4 width each [] zero enough = refl
segments_back as4 width each [] (suc fuel) enough = refl
segments_back as4 width each (s ∷ path) zero enough = absurd (omega arith)
segments_back as4 width each (s ∷ path) (suc fuel) enough =
    let numbers = flat_map (as_octets as4) s.numbers in
    let rest = as_path_octets as4 path in
    let long : length numbers ≡ width * length s.numbers = flat_len (as_octets as4) width each s.numbers in
    let own : take (width * length s.numbers) (numbers ++ rest) ≡ numbers = ap (λ (k : ℕ). take k (numbers ++ rest)) (sym long) ∙ take-append_seam numbers rest in
    let gone : drop (width * length s.numbers) (numbers ++ rest) ≡ rest = ap (λ (k : ℕ). drop k (numbers ++ rest)) (sym long) ∙ drop-append_seam numbers rest in
    let more : segments_in fuel width rest ≡ map (wire_segment as4) path = segments_back as4 width each path fuel (omega (arith, length-append numbers rest)) in
    let octets = segment_type s.kind ∷ length s.numbers ∷ (numbers ++ rest) in
    let after : drop (2 + width * length s.numbers) octets ≡ rest = sym (drop-drop (width * length s.numbers) 2 octets) ∙ gone in
    rw (ne_eqb (length octets) 0 (λ e. absurd (omega arith)), own, after, more) refl

-- the same of any segments
wire_back : (most width : ℕ) (segments : List WireSegment) (fuel : ℕ) → All (IsSegment most width) segments → length (flat_map segment_octets segments) ≤ fuel
    → segments_in fuel width (flat_map segment_octets segments) ≡ segments
wire_back most width [] zero each enough = refl
wire_back most width [] (suc fuel) each enough = refl
wire_back most width (s ∷ segments) zero each enough = absurd (omega arith)
wire_back most width (s ∷ segments) (suc fuel) each enough =
    let rest = flat_map segment_octets segments in
    let long = (All-head (IsSegment most width) s segments each).whole in
    let own : take (width * s.count) (s.numbers ++ rest) ≡ s.numbers = ap (λ (k : ℕ). take k (s.numbers ++ rest)) (sym long) ∙ take-append_seam s.numbers rest in
    let gone : drop (width * s.count) (s.numbers ++ rest) ≡ rest = ap (λ (k : ℕ). drop k (s.numbers ++ rest)) (sym long) ∙ drop-append_seam s.numbers rest in
    let more : segments_in fuel width rest ≡ segments = wire_back most width segments fuel (All-tail (IsSegment most width) s segments each) (omega (arith, length-append s.numbers rest)) in
    let octets = s.kind ∷ s.count ∷ (s.numbers ++ rest) in
    let after : drop (2 + width * s.count) octets ≡ rest = sym (drop-drop (width * s.count) 2 octets) ∙ gone in
    rw (ne_eqb (length octets) 0 (λ e. absurd (omega arith)), own, after, more) refl

pub segments_read : ReadsSegments
segments_read most width segments each = wire_back most width segments (length (flat_map segment_octets segments)) each (omega arith)

-- what is read of a written segment
abbrev read_segment : Bool → ℕ → PathSegment → PathSegment
read_segment as4 width s = record { kind = s.kind; numbers = numbers_in (length s.numbers) width (flat_map (as_octets as4) s.numbers) }

kept_by : (as4 : Bool) (width : ℕ) (kind : SegmentKind) (numbers : List ℕ)
    → path_segment width (wire_segment as4 (record { kind = kind; numbers = numbers })) ≡ Some (read_segment as4 width (record { kind = kind; numbers = numbers }))
kept_by as4 width Set numbers = refl
kept_by as4 width Sequence numbers = refl

all_kept : (as4 : Bool) (width : ℕ) (path : List PathSegment) → filter_map (path_segment width) (map (wire_segment as4) path) ≡ map (read_segment as4 width) path
all_kept as4 width [] = refl
all_kept as4 width (s ∷ path) = rw (kept_by as4 width s.kind s.numbers, all_kept as4 width path) refl

-- ---- paths

all_own : (as4 : Bool) (width : ℕ) (path : List PathSegment) → All (λ s. numbers_in (length s.numbers) width (flat_map (as_octets as4) s.numbers) ≡ s.numbers) path
    → map (read_segment as4 width) path ≡ path
all_own as4 width [] each = refl
all_own as4 width (s ∷ path) each =
    let own = All-head (λ (t : PathSegment). numbers_in (length t.numbers) width (flat_map (as_octets as4) t.numbers) ≡ t.numbers) s path each in
    let more = all_own as4 width path (All-tail (λ (t : PathSegment). numbers_in (length t.numbers) width (flat_map (as_octets as4) t.numbers) ≡ t.numbers) s path each) in
    rw (own, more) refl

path_in_written : (as4 : Bool) (width : ℕ) → ((n : ℕ) → length (as_octets as4 n) ≡ width) → (path : List PathSegment)
    → path_in width (as_path_octets as4 path) ≡ map (read_segment as4 width) path
path_in_written as4 width each path =
    ap (filter_map (path_segment width)) (segments_back as4 width each path (length (as_path_octets as4 path)) (omega arith)) ∙ all_kept as4 width path

numbers_alone : (size : ℕ) (numbers : List ℕ) → All (λ n. n < 256 ^ size) numbers → numbers_in (length numbers) size (flat_map (big_bytes size) numbers) ≡ numbers
numbers_alone size numbers each =
    ap (numbers_in (length numbers) size) (sym (append-nil (flat_map (big_bytes size) numbers))) ∙ numbers_back size numbers [] each

own_4 : (path : List PathSegment) → All IsPathSegment path → All (λ s. numbers_in (length s.numbers) 4 (flat_map (as_octets true) s.numbers) ≡ s.numbers) path
own_4 [] each = All-nil (λ (s : PathSegment). numbers_in (length s.numbers) 4 (flat_map (as_octets true) s.numbers) ≡ s.numbers)
own_4 (s ∷ path) each =
    All-cons (λ (t : PathSegment). numbers_in (length t.numbers) 4 (flat_map (as_octets true) t.numbers) ≡ t.numbers) s path
    (numbers_alone 4 s.numbers (All-head IsPathSegment s path each).fits) (own_4 path (All-tail IsPathSegment s path each))

path_4 : (path : List PathSegment) → All IsPathSegment path → path_in 4 (as_path_octets true path) ≡ path
path_4 path each = path_in_written true 4 (length-bytes_high_first 4) path ∙ all_own true 4 path (own_4 path each)

or_none : (x y : Bool) → (x || y) ≡ false → (x ≡ false) × (y ≡ false)
or_none true y e = absurd cc
or_none false y e = (refl, e)

small_octets : (numbers : List ℕ) → list_any needs_four_octets numbers ≡ false → flat_map (as_octets false) numbers ≡ flat_map (big_bytes 2) numbers
small_octets [] e = refl
small_octets (n ∷ numbers) e =
    let h = or_none (needs_four_octets n) (list_any needs_four_octets numbers) e in
    rw (h.0, small_octets numbers h.1) refl

small_fit : (numbers : List ℕ) → list_any needs_four_octets numbers ≡ false → All (λ n. n < 256 ^ 2) numbers
small_fit [] e = All-nil (λ n. n < 256 ^ 2)
small_fit (n ∷ numbers) e =
    let h = or_none (needs_four_octets n) (list_any needs_four_octets numbers) e in
    let least = ltb-false 65535 n h.0 in
    All-cons (λ m. m < 256 ^ 2) n numbers (omega arith) (small_fit numbers h.1)

own_2 : (path : List PathSegment) → has_large path ≡ false → All (λ s. numbers_in (length s.numbers) 2 (flat_map (as_octets false) s.numbers) ≡ s.numbers) path
own_2 [] e = All-nil (λ (s : PathSegment). numbers_in (length s.numbers) 2 (flat_map (as_octets false) s.numbers) ≡ s.numbers)
own_2 (s ∷ path) e =
    let h = or_none (list_any needs_four_octets s.numbers) (has_large path) e in
    All-cons (λ (t : PathSegment). numbers_in (length t.numbers) 2 (flat_map (as_octets false) t.numbers) ≡ t.numbers) s path
    (ap (numbers_in (length s.numbers) 2) (small_octets s.numbers h.0) ∙ numbers_alone 2 s.numbers (small_fit s.numbers h.0)) (own_2 path h.1)

two_octets : (n : ℕ) → length (as_octets false n) ≡ 2
two_octets n = refl

path_2 : (path : List PathSegment) → has_large path ≡ false → path_in 2 (as_path_octets false path) ≡ path
path_2 path e = path_in_written false 2 two_octets path ∙ all_own false 2 path (own_2 path e)

-- ---- AS4_PATH, merged into a path of as many numbers

same_weight : (kind : SegmentKind) (xs ys : List ℕ) → length xs ≡ length ys → weight_of kind xs ≡ weight_of kind ys
same_weight Set xs ys e = refl
same_weight Sequence xs ys e = e

same_count : (as4 : Bool) (width : ℕ) (path : List PathSegment) → count_of (map (read_segment as4 width) path) ≡ count_of path
same_count as4 width [] = refl
same_count as4 width (s ∷ path) =
    let one = same_weight s.kind (numbers_in (length s.numbers) width (flat_map (as_octets as4) s.numbers)) s.numbers (length-numbers_in (length s.numbers) width (flat_map (as_octets as4) s.numbers)) in
    sum_by-cons weight (read_segment as4 width s) (map (read_segment as4 width) path)
    ∙ rw (one, same_count as4 width path) (sym (sum_by-cons weight s path))

lead_zero : (path : List PathSegment) → leading_part path 0 ≡ []
lead_zero [] = refl
lead_zero (s ∷ path) = refl

merged_all : (path as4 : List PathSegment) → count_of path ≡ count_of as4 → merge_of path as4 ≡ as4
merged_all path as4 e =
    let none : count_of path - count_of as4 ≡ 0 = omega arith in
    rw (le-ltb (count_of path) (count_of as4) (omega arith), none, lead_zero path) refl

merged_2 : (path : List PathSegment) → All IsPathSegment path → merge_of (path_in 2 (as_path_octets false path)) (path_in 4 (as_path_octets true path)) ≡ path
merged_2 path each =
    rw (path_4 path each, path_in_written false 2 two_octets path) (merged_all (map (read_segment false 2) path) path (same_count false 2 path))

-- ---- aggregators

abbrev IsFitAggregator : Aggregator → Type 0
IsFitAggregator a = (a.as_number < 2 ^ 32) × (a.address < 2 ^ 32)

aggregator_4 : (a : Aggregator) → IsFitAggregator a → aggregator_in 4 (aggregator_octets true a) ≡ a
aggregator_4 a fits =
    rw (big_number-reads_back 4 a.as_number (big_bytes 4 a.address) fits.0, big_number-reads_back 4 a.address [] fits.1) refl

aggregator_2 : (a : Aggregator) → needs_four_octets a.as_number ≡ false → IsFitAggregator a → aggregator_in 2 (aggregator_octets false a) ≡ a
aggregator_2 a e fits =
    let least = ltb-false 65535 a.as_number e in
    rw (e, big_number-reads_back 2 a.as_number (big_bytes 4 a.address) (omega arith), big_number-reads_back 4 a.address [] fits.1) refl

abbrev width_of : Bool → ℕ
width_of as4 = if as4 then 4 else 2

abbrev read_aggregator : Bool → Option Aggregator → Option Aggregator
read_aggregator as4 a = option_map (aggregator_in (width_of as4)) (option_map (aggregator_octets as4) a)

abbrev read_as4_aggregator : Bool → Option Aggregator → Option Aggregator
read_as4_aggregator as4 a = option_map (aggregator_in 4) (as4_aggregator_octets as4 a)

-- what is written of an aggregator isn't old, and is read as it
pub record AggregatorBack (as4 : Bool) (a : Option Aggregator) : Type 0 where
  pub fresh : is_as4_old (read_aggregator as4 a) (read_as4_aggregator as4 a) ≡ false
  pub same : merged_aggregator (read_aggregator as4 a) (read_as4_aggregator as4 a) ≡ a

small_same : (a : Aggregator) (large : Bool) → large ≡ false → aggregator_in 2 (aggregator_octets false a) ≡ a
    → merged_aggregator (Some (aggregator_in 2 (aggregator_octets false a))) (option_map (aggregator_in 4) (if large then Some (aggregator_octets true a) else None)) ≡ Some a
small_same a large e h = rw e (ap Some h)

aggregator_back : (as4 : Bool) (a : Option Aggregator) → IfSome a IsFitAggregator → AggregatorBack as4 a
aggregator_back true None fits = record { fresh = refl; same = refl }
aggregator_back false None fits = record { fresh = refl; same = refl }
aggregator_back true (Some a) fits = record { fresh = refl; same = ap Some (aggregator_4 a fits) }
aggregator_back false (Some a) fits = elim (cases_Bool (needs_four_octets a.as_number)) [
  | inl e ↦ record { fresh = rw e refl; same = rw e (ap Some (aggregator_4 a fits)) }
  | inr e ↦ record { fresh = rw e refl; same = small_same a (needs_four_octets a.as_number) e (aggregator_2 a e fits) }
]

-- ---- the whole path

abbrev written_as4 : Bool → List PathSegment → Option (List ℕ)
written_as4 as4 path = if not as4 && has_large path then Some (as_path_octets true path) else None

as_path_back : (as4 : Bool) (path : List PathSegment) → All IsPathSegment path
    → merged_path false (path_in (width_of as4) (as_path_octets as4 path)) (option_map (path_in 4) (written_as4 as4 path)) ≡ path
as_path_back true path each = path_4 path each
as_path_back false path each = elim (cases_Bool (has_large path)) [
  | inl e ↦ rw e (merged_2 path each)
  | inr e ↦ rw e (path_2 path e)
]

origin_back : (origin : Origin) → origin_from (Some (origin_number origin ∷ [])) ≡ origin
origin_back Igp = refl
origin_back Egp = refl
origin_back Incomplete = refl

number_back : (n : Option ℕ) → IfSome n (λ m. m < 2 ^ 32) → option_map (big_number 4) (option_map (big_bytes 4) n) ≡ n
number_back None fits = refl
number_back (Some n) fits = ap Some (big_number-reads_back 4 n [] fits)

abbrev flag_value : Bool → Option (List ℕ)
flag_value b = if b then Some [] else None

flag_back : (b : Bool) → is_some (flag_value b) ≡ b
flag_back true = refl
flag_back false = refl

pub path_back : (side : Side) (p : PathValue) → IsFit p → IsDistinct same_large_community p.large_communities → path_from side (value_in side p) p.next_hop ≡ p
path_back side p fits distinct i =
    let aggregator = aggregator_back side.as4 p.aggregator fits.aggregator in
    record {
      origin = origin_back p.origin i;
      as_path = (ap (λ (old : Bool). merged_path old (path_in (width_of side.as4) (as_path_octets side.as4 p.as_path)) (option_map (path_in 4) (written_as4 side.as4 p.as_path))) aggregator.fresh
          ∙ as_path_back side.as4 p.as_path fits.segments) i;
      next_hop = p.next_hop;
      multi_exit_disc = number_back p.multi_exit_disc fits.multi_exit_disc i;
      local_pref = number_back p.local_pref fits.local_pref i;
      atomic_aggregate = flag_back p.atomic_aggregate i;
      aggregator = aggregator.same i;
      communities = items_back 4 p.communities four fits.communities i;
      originator_id = number_back p.originator_id fits.originator_id i;
      cluster_list = items_back 4 p.cluster_list four fits.cluster_list i;
      extended_communities = items_back 8 p.extended_communities eight fits.extended_communities i;
      large_communities = large_back p.large_communities fits.large_communities distinct i;
    }
