-- The body of an UPDATE (RFC 4271, 4.3): withdrawn prefixes, path attributes and announced
-- prefixes.
use Rattle.std.specs.Prelude.{◌≡◌, ◌<◌, ◌^◌, ◌++◌, ℕ, List, length}
use Rattle.byteorder.specs.Endian.{big_bytes}
use Rattle.bgp_attr.specs.Message.{IsMessage, body_of}

-- the octets of the three fields
pub record Sections : Type 0 where
  pub withdrawn : List ℕ
  pub attributes : List ℕ
  pub nlri : List ℕ

-- Withdrawn Routes Length, Withdrawn Routes, Total Path Attribute Length, Path Attributes, and
-- Network Layer Reachability Information to the end
abbrev pub section_octets : Sections → List ℕ
section_octets s =
    big_bytes 2 (length s.withdrawn)
    ++ (s.withdrawn ++ (big_bytes 2 (length s.attributes) ++ (s.attributes ++ s.nlri)))

-- the octets are a whole UPDATE with these fields
pub record IsUpdate (octets : List ℕ) (s : Sections) : Type 0 where
  pub message : IsMessage 2 octets
  pub body : body_of octets ≡ section_octets s
  pub withdrawn_length : length s.withdrawn < 2 ^ 16
  pub attributes_length : length s.attributes < 2 ^ 16

-- Rule "bad lengths" (RFC 4271, 6.3; RFC 7606, 3 b): Withdrawn Routes Length + Total Path Attribute
-- Length + 23 is above the Length, or the second can't be read within it. Octets that are no UPDATE
-- at all count as one too.
abbrev pub IsMalformed : List ℕ → Type 0
IsMalformed octets = (s : Sections) → ¬ IsUpdate octets s
