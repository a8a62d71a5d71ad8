-- A whole message (RFC 4271, 4.1): a header and a body, whatever the body is.
use Rattle.std.specs.Prelude.{◌≡◌, ◌≤◌, ◌+◌, ◌++◌, ℕ, List, [], length, drop}
use Rattle.bgp_wire.specs.Header.{IsSynchronized, header_of, header_octets, length_of, type_of}

-- the octets are one message of this Type code: an all-255 marker, a Length that is their count,
-- the type
pub record IsMessage (kind : ℕ) (octets : List ℕ) : Type 0 where
  pub header : 19 ≤ length octets
  pub marker : IsSynchronized (header_of octets)
  pub count : length_of (header_of octets) ≡ length octets
  pub type_field : type_of (header_of octets) ≡ kind

-- what stands behind the header
abbrev pub body_of : List ℕ → List ℕ
body_of octets = drop 19 octets

-- the octets are a KEEPALIVE: a header alone (4.4)
abbrev pub IsKeepalive : List ℕ → Type 0
IsKeepalive octets = IsMessage 4 octets × (body_of octets ≡ [])

-- a message of a type as it is written: its header, and this body
unfoldable pub message_octets : ℕ → List ℕ → List ℕ
message_octets kind body = header_octets kind (19 + length body) ++ body
