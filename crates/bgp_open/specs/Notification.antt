-- A NOTIFICATION message (RFC 4271, 4.5).
use Rattle.std.specs.Prelude.{◌≡◌, ◌∷◌, ℕ, List}
use Rattle.bgp_wire.specs.Message.{IsMessage, body_of}

-- the octets are the NOTIFICATION with this Error code, this Error subcode and these Data, which go
-- to the end
pub record IsNotification (octets : List ℕ) (code subcode : ℕ) (detail : List ℕ) : Type 0 where
  pub message : IsMessage 3 octets
  pub body : body_of octets ≡ code ∷ subcode ∷ detail
