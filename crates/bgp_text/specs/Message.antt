-- What a frame says, as far as it is printed, by the type in its header (RFC 4271, 4) and by how
-- routes are spelled where it is sent (RFC 7911, 3).
use Rattle.std.specs.Prelude.{◌≡◌, ℕ, List, [], ◌∷◌}
use Rattle.bgp_wire.specs.Header.{header_of, type_of}
use Rattle.bgp_wire.specs.Message.{IsKeepalive}
use Rattle.bgp_update.specs.Open.{OpenFields, open_of}
use Rattle.bgp_update.specs.OpenFault.{IsWellFormed, IsAnswered}
use Rattle.bgp_update.specs.Notification.{IsNotification}
use Rattle.bgp_update.specs.DeclaredOpenFault.{OpenFault}
use Rattle.bgp_update.specs.DeclaredRouteForm.{RouteForm}
use Rattle.bgp_update.specs.RouteForm.{plain_form}
use Rattle.bgp_update.specs.Parts.{UpdateParts, SpellsParts, LacksParts}

pub data Message : Type 0 where
  -- an OPEN (4.2), or the fault of one whose form is wrong (6.2)
  open_message : OpenFields → Message
  malformed_open_message : OpenFault → Message
  -- the parts of an UPDATE (4.3), or one with a length, a list of destinations or the end of its
  -- attributes at fault
  update_message : UpdateParts → Message
  malformed_update_message : Message
  -- a NOTIFICATION (4.5): its code, its subcode and its data
  notification_message : ℕ → ℕ → List ℕ → Message
  -- a KEEPALIVE (4.4), which is a header alone
  keepalive_message : Message

-- the frame says this, where routes are spelled in this form
abbrev pub Says : RouteForm → List ℕ → Message → Type 0
Says form frame (open_message fields) =
    (type_of (header_of frame) ≡ 1) × IsWellFormed frame × (fields ≡ open_of frame)
Says form frame (malformed_open_message fault) =
    (type_of (header_of frame) ≡ 1) × IsAnswered frame fault
Says form frame (update_message parts) =
    (type_of (header_of frame) ≡ 2) × SpellsParts form frame parts
Says form frame malformed_update_message = (type_of (header_of frame) ≡ 2) × LacksParts form frame
Says form frame (notification_message code subcode detail) =
    (type_of (header_of frame) ≡ 3) × IsNotification frame code subcode detail
Says form frame keepalive_message = (type_of (header_of frame) ≡ 4) × IsKeepalive frame

-- the frames say these, one after another, by the plain form: a stream alone doesn't show what both
-- OPENs settle
abbrev pub Say : List (List ℕ) → List Message → Type 0
Say [] [] = Unit {0}
Say (frame ∷ frames) (message ∷ messages) = Says plain_form frame message × Say frames messages
Say [] (message ∷ messages) = ⊥
Say (frame ∷ frames) [] = ⊥
