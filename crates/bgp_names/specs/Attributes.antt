-- The names of path attributes, as IANA's registry "BGP Path Attributes" has them, each as one
-- word; the words by which lines call them; and the names of what two of them say.
use Rattle.std.specs.Prelude.{ℕ, List, [], ◌∷◌, codes}
use Rattle.bgp_names.specs.Naming.{named}

-- RFC 4271, 5.1 (1 to 7), 1997 (8), 4456 (9, 10), 4760 (14, 15), 4360 (16), 6793 (17, 18), 7311
-- (26), 8092 (32), 9234 (35)
abbrev pub attribute_names : List (ℕ × List ℕ)
attribute_names =
    (1, codes "ORIGIN") ∷ (2, codes "AS_PATH") ∷ (3, codes "NEXT_HOP")
    ∷ (4, codes "MULTI_EXIT_DISC") ∷ (5, codes "LOCAL_PREF") ∷ (6, codes "ATOMIC_AGGREGATE")
    ∷ (7, codes "AGGREGATOR") ∷ (8, codes "COMMUNITIES") ∷ (9, codes "ORIGINATOR_ID")
    ∷ (10, codes "CLUSTER_LIST") ∷ (14, codes "MP_REACH_NLRI") ∷ (15, codes "MP_UNREACH_NLRI")
    ∷ (16, codes "EXTENDED_COMMUNITIES") ∷ (17, codes "AS4_PATH") ∷ (18, codes "AS4_AGGREGATOR")
    ∷ (26, codes "AIGP") ∷ (32, codes "LARGE_COMMUNITY") ∷ (35, codes "ONLY_TO_CUSTOMER") ∷ []

-- an attribute: its name, or `attribute N`
abbrev pub attribute_name : ℕ → List ℕ
attribute_name kind = named (codes "attribute ") attribute_names kind

abbrev pub attribute_words : List (ℕ × List ℕ)
attribute_words =
    (1, codes "origin") ∷ (2, codes "path") ∷ (3, codes "via") ∷ (4, codes "med")
    ∷ (5, codes "pref") ∷ (6, codes "atomic") ∷ (7, codes "aggregator")
    ∷ (8, codes "communities") ∷ (9, codes "originator") ∷ (10, codes "clusters")
    ∷ (14, codes "reach") ∷ (15, codes "unreach") ∷ (16, codes "extended")
    ∷ (17, codes "as4-path") ∷ (18, codes "as4-aggregator") ∷ (26, codes "aigp")
    ∷ (32, codes "large") ∷ (35, codes "only-to-customer") ∷ []

-- an attribute in a line: its word, or `attribute N`
abbrev pub attribute_word : ℕ → List ℕ
attribute_word kind = named (codes "attribute ") attribute_words kind

-- the values of ORIGIN (RFC 4271, 4.3)
abbrev pub origin_names : List (ℕ × List ℕ)
origin_names = (0, codes "IGP") ∷ (1, codes "EGP") ∷ (2, codes "INCOMPLETE") ∷ []

-- the types of a path segment (RFC 4271, 4.3; RFC 5065, 3)
abbrev pub segment_names : List (ℕ × List ℕ)
segment_names =
    (1, codes "AS_SET") ∷ (2, codes "AS_SEQUENCE") ∷ (3, codes "AS_CONFED_SEQUENCE")
    ∷ (4, codes "AS_CONFED_SET") ∷ []
