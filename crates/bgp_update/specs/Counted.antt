-- A field behind its length in two octets (RFC 4271, 4.3).
use Rattle.std.specs.Prelude.{◌≡◌, ◌<◌, ◌^◌, ◌++◌, ℕ, List, length}
use Rattle.byteorder.specs.Endian.{big_bytes}

-- the octets are the length of a field, the field and what follows it
pub record IsCounted (octets field rest : List ℕ) : Type 0 where
  pub spelled : octets ≡ big_bytes 2 (length field) ++ (field ++ rest)
  pub fits : length field < 2 ^ 16

-- they begin with no such field
abbrev pub LacksCounted : List ℕ → Type 0
LacksCounted octets = (field rest : List ℕ) → ¬ IsCounted octets field rest
