-- The NOTIFICATION that ended a connection: of both directions the first in packet order.
use Rattle.std.specs.Prelude.{◌≡◌, ◌<◌, ◌≤◌, ◌++◌, ℕ, List, ◌∷◌, Option, None, Some, map}
use Rattle.std.specs.List.{AllByRecursion}
use Rattle.streams.specs.declared.passed.Side.{Side}
use Rattle.streams.specs.declared.passed.Side.TheVariants.{Local, Peer}
use Rattle.bgp_open.specs.Notification.{IsNotification}
use Rattle.bgp_recording.specs.Values.{MessageValue, message_value, value_moment}
use Rattle.bgp_recording.specs.declared.message.Message.{Message}
use Rattle.bgp_values.specs.ErrorData.{ErrorFields}
use Rattle.bgp_ended.specs.Values.{EndedValue, Notified}

-- ---- the messages

-- a message, wherever its octets lie, and who sent it
pub record Said : Type 0 where
  pub by : Side
  pub message : MessageValue

abbrev pub said_as : Side → Message → Said
said_as side message = record { by = side; message = message_value message }

abbrev pub said_by : Side → List Message → List Said
said_by side messages = map (said_as side) messages

-- those of both directions: all that the local system sent, and then all that it received
abbrev pub said_in : List Message → List Message → List Said
said_in received sent = said_by Local sent ++ said_by Peer received

-- ---- the NOTIFICATION

-- it is a whole NOTIFICATION (RFC 4271, 4.5)
abbrev pub IsNotice : Said → Type 0
IsNotice said =
    (code : ℕ) × (subcode : ℕ) × (detail : List ℕ)
    × IsNotification said.message.octets code subcode detail

-- it is, and this is told of it: its packet, who sent it, and what it says
pub record Notifies (said : Said) (ended : EndedValue) : Type 0 where
  pub error : ErrorFields
  pub is : IsNotification said.message.octets error.code error.subcode error.detail
  pub tells : ended ≡ record {
    moment = value_moment said.message;
    by = said.by;
    how = Notified error;
  }

-- This is told of the first NOTIFICATION of these messages in packet order: none has an earlier
-- packet, and of those with the same packet none stands before it.
pub record IsOfFirst (messages : List Said) (ended : EndedValue) : Type 0 where
  pub before : List Said
  pub first : Said
  pub after : List Said
  pub whole : messages ≡ before ++ first ∷ after
  pub notifies : Notifies first ended
  pub is_earlier : AllByRecursion
      (λ other. IsNotice other → first.message.packet < other.message.packet) before
  pub isnt_later : AllByRecursion
      (λ other. IsNotice other → first.message.packet ≤ other.message.packet) after

-- or there is none
abbrev pub HasFirst : List Said → Option EndedValue → Type 0
HasFirst messages None = AllByRecursion (λ said. ¬ IsNotice said) messages
HasFirst messages (Some ended) = IsOfFirst messages ended
