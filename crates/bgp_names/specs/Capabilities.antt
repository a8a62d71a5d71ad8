-- The names of capabilities, as IANA's registry "Capability Codes" has them, some of them shorter;
-- and of what two of them say.
use Rattle.std.specs.Prelude.{ℕ, List, [], ◌∷◌, codes}
use Rattle.bgp_names.specs.Naming.{named}

-- RFC 4760, 2918, 8950, 8654, 9234, 4724, 6793, 7911, 7313, 9494; FQDN is
-- draft-walton-bgp-hostname-capability, and 128 is what routers sent before RFC 2918
abbrev pub capability_names : List (ℕ × List ℕ)
capability_names =
    (1, codes "Multiprotocol") ∷ (2, codes "Route Refresh") ∷ (5, codes "Extended Next Hop")
    ∷ (6, codes "Extended Message") ∷ (9, codes "Role") ∷ (64, codes "Graceful Restart")
    ∷ (65, codes "Four-octet AS") ∷ (69, codes "ADD-PATH")
    ∷ (70, codes "Enhanced Route Refresh") ∷ (71, codes "Long-Lived Graceful Restart")
    ∷ (73, codes "FQDN") ∷ (128, codes "Prestandard Route Refresh") ∷ []

-- a capability: its name, or `capability N`
abbrev pub capability_name : ℕ → List ℕ
capability_name code = named (codes "capability ") capability_names code

-- the roles of capability 9 (RFC 9234, 4.1)
abbrev pub role_names : List (ℕ × List ℕ)
role_names =
    (0, codes "Provider") ∷ (1, codes "RS") ∷ (2, codes "RS-Client") ∷ (3, codes "Customer")
    ∷ (4, codes "Peer") ∷ []

-- what a system does with path identifiers by capability 69 (RFC 7911, 4)
abbrev pub way_names : List (ℕ × List ℕ)
way_names = (1, codes "receive") ∷ (2, codes "send") ∷ (3, codes "both") ∷ []
