-- Large communities written and read.
use Rattle.std.proofs.Common.{◌≡◌, ℕ, suc, ◌-◌, ◌*◌, ◌/◌, ◌≤◌, false, true, List, [], ◌∷◌, ◌++◌, length, drop, All, refl, sym, ap, ◌∙◌, arith}
use Rattle.std.specs.List.{flat_map, IsDistinct}
use Rattle.std.proofs.lemmas.Bool.{ne_eqb}
use Rattle.std.proofs.lemmas.List.{length-drop}
use Rattle.std.proofs.lemmas.List.Elements.{All-head, All-tail}
use Rattle.byteorder.specs.Endian.{big_bytes}
use Rattle.byteorder.specs.Numbers.{big_number-reads_back}
use Rattle.bgp_path.specs.declared.large_community.LargeCommunity.{LargeCommunity}
use Rattle.bgp_path.specs.Fit.{IsFitCommunity}
use Rattle.bgp_path.specs.LargeCommunities.{has_large_community, same_large_community, without_repeats}
use Rattle.bgp_path.proofs.Repeats.{kept_with, all_kept, next_is_out, next_is_kept, distinct_stay}
use Rattle.bgp_attr.specs.LargeCommunities.{large_community_octets, large_communities_octets, large_community_at, large_communities_at, large_communities_in, large_communities_from}
use Rattle.bgp_attr.proofs.Lengths.{flat_len}

pub length-large : (c : LargeCommunity) → length (large_community_octets c) ≡ 12
length-large c = refl

-- ---- what is written is read back

one_back : (c : LargeCommunity) (rest : List ℕ) → IsFitCommunity c → large_community_at (large_community_octets c ++ rest) ≡ c
one_back c rest fits i =
    let second = big_bytes 4 c.local_data_part_1 in
    let third = big_bytes 4 c.local_data_part_2 in
    record {
      global_administrator = big_number-reads_back 4 c.global_administrator (second ++ (third ++ rest)) fits.global_administrator i;
      local_data_part_1 = big_number-reads_back 4 c.local_data_part_1 (third ++ rest) fits.local_data_part_1 i;
      local_data_part_2 = big_number-reads_back 4 c.local_data_part_2 rest fits.local_data_part_2 i;
    }

all_back : (cs : List LargeCommunity) → All IsFitCommunity cs → large_communities_at (length cs) (flat_map large_community_octets cs) ≡ cs
all_back [] each = refl
all_back (c ∷ cs) each =
    rw (one_back c (flat_map large_community_octets cs) (All-head IsFitCommunity c cs each), all_back cs (All-tail IsFitCommunity c cs each)) refl

twelve : (k : ℕ) → 12 * k / 12 ≡ k
twelve k = omega arith

pub large_back : (cs : List LargeCommunity) → All IsFitCommunity cs → IsDistinct same_large_community cs → large_communities_from (large_communities_octets cs) ≡ cs
large_back [] each distinct = refl
large_back (c ∷ cs) each distinct =
    let octets = flat_map large_community_octets (c ∷ cs) in
    let many : length octets / 12 ≡ length (c ∷ cs) =
    ap (λ (k : ℕ). k / 12) (flat_len large_community_octets 12 length-large (c ∷ cs)) ∙ twelve (length (c ∷ cs)) in
    let all : large_communities_in octets ≡ c ∷ cs = ap (λ (k : ℕ). large_communities_at k octets) many ∙ all_back (c ∷ cs) each in
    rw (ne_eqb (length (c ∷ cs)) 0 (λ e. absurd (omega arith))) (ap without_repeats all ∙ distinct_stay (c ∷ cs) distinct)

-- ---- read one at a time

one_less : (n : ℕ) → 12 ≤ n → n / 12 ≡ suc ((n - 12) / 12)
one_less n h = omega arith

next_is : (octets : List ℕ) → 12 ≤ length octets → large_communities_in octets ≡ large_community_at octets ∷ large_communities_in (drop 12 octets)
next_is octets h =
    ap (λ (n : ℕ). large_communities_at n octets) (one_less (length octets) h)
    ∙ ap (λ (n : ℕ). large_community_at octets ∷ large_communities_at (n / 12) (drop 12 octets)) (sym (length-drop 12 octets))

pub read_repeat : (kept : List LargeCommunity) (c : LargeCommunity) (rest after : List ℕ) (all : List LargeCommunity) → 12 ≤ length rest → c ≡ large_community_at rest → after ≡ drop 12 rest
    → has_large_community kept c ≡ true → kept_with kept (large_communities_in rest) ≡ all → kept_with kept (large_communities_in after) ≡ all
read_repeat kept c rest after all enough is gone has before =
    let next : large_communities_in rest ≡ c ∷ large_communities_in after = rw (is, gone) (next_is rest enough) in
    sym (ap (kept_with kept) next ∙ next_is_out kept c (large_communities_in after) has) ∙ before

pub read_new : (kept new : List LargeCommunity) (c : LargeCommunity) (rest after : List ℕ) (all : List LargeCommunity) → 12 ≤ length rest → c ≡ large_community_at rest → after ≡ drop 12 rest
    → has_large_community kept c ≡ false → new ≡ kept ++ c ∷ [] → kept_with kept (large_communities_in rest) ≡ all → kept_with new (large_communities_in after) ≡ all
read_new kept new c rest after all enough is gone has push before =
    let next : large_communities_in rest ≡ c ∷ large_communities_in after = rw (is, gone) (next_is rest enough) in
    ap (λ (k : List LargeCommunity). kept_with k (large_communities_in after)) push
    ∙ sym (ap (kept_with kept) next ∙ next_is_kept kept c (large_communities_in after) has) ∙ before

pub all_read : (kept : List LargeCommunity) (rest : List ℕ) (all : List LargeCommunity) → length rest / 12 ≡ 0 → kept_with kept (large_communities_in rest) ≡ all → kept ≡ all
all_read kept rest all none before =
    let nothing : large_communities_in rest ≡ [] = ap (λ (n : ℕ). large_communities_at n rest) none in
    sym (ap (kept_with kept) nothing ∙ all_kept kept) ∙ before
