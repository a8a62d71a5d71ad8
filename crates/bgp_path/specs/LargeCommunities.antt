-- Large communities (RFC 8092).
use Rattle.std.specs.Prelude.{◌≡◌, ℕ, Bool, not, ◌&&◌, ◌==◌, if◌then◌else◌, List, [], ◌∷◌, ◌++◌}
use Rattle.std.specs.Fmt.{decimal}
use Rattle.std.specs.List.{filter, list_any}
use Rattle.bgp_path.specs.declared.large_community.LargeCommunity.{LargeCommunity}

-- two of them
abbrev pub same_large_community : LargeCommunity → LargeCommunity → Bool
same_large_community c d =
    (c.global_administrator == d.global_administrator)
    && ((c.local_data_part_1 == d.local_data_part_1)
    && (c.local_data_part_2 == d.local_data_part_2))

-- its numbers in decimal with colons, octet 58, between them (RFC 8092, 5)
abbrev pub large_community_text : LargeCommunity → List ℕ
large_community_text c =
    decimal c.global_administrator
    ++ (58 ∷ (decimal c.local_data_part_1 ++ (58 ∷ decimal c.local_data_part_2)))

-- one of these is equal to it
abbrev pub has_large_community : List LargeCommunity → LargeCommunity → Bool
has_large_community cs c = list_any (λ d. same_large_community d c) cs

-- of equal ones the first alone (RFC 8092, 3; profile: their order stays)
abbrev pub without_repeats : List LargeCommunity → List LargeCommunity
without_repeats [] = []
without_repeats (c ∷ cs) = c ∷ filter (λ d. not (same_large_community c d)) (without_repeats cs)

-- that is: each of them stays exactly where none before it is equal to it
abbrev pub KeepsTheFirst : Type 0
KeepsTheFirst =
    (cs : List LargeCommunity) (c : LargeCommunity)
    → without_repeats (cs ++ c ∷ [])
    ≡ (if has_large_community cs c then without_repeats cs else without_repeats cs ++ c ∷ [])
