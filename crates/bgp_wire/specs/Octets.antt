-- Octets as numbers: each is below 256 (RFC 4271, 4).
use Rattle.std.specs.Prelude.{◌<◌, ℕ, List, All}

-- each number is that of an octet
abbrev pub AreOctets : List ℕ → Type 0
AreOctets octets = All (λ octet. octet < 256) octets
