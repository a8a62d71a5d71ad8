-- Messages as packets tell them, wherever their octets lie.
use Rattle.std.specs.Prelude.{ℕ, List, [], ◌∷◌, Option, None, Some, map}
use Rattle.bgp_wire.specs.declared.header.MessageType.{MessageType}
use Rattle.bgp_recording.specs.declared.message.Message.{Message}
use Rattle.bgp_recording.specs.declared.pending.Moment.{Moment}
use Rattle.bgp_recording.specs.Changes.{code_in}

-- the fields are those of a Message
pub record MessageValue : Type 0 where
  pub octets : List ℕ
  pub kind : Option MessageType
  pub packet : ℕ
  pub second : ℕ
  pub micro : Option ℕ

abbrev pub message_value : Message → MessageValue
message_value message = record {
  octets = message.octets.now;
  kind = message.kind;
  packet = message.packet;
  second = message.second;
  micro = message.micro;
}

-- its packet
abbrev pub value_moment : MessageValue → Moment
value_moment message =
    record { packet = message.packet; second = message.second; micro = message.micro }

abbrev pub values_of : List Message → List MessageValue
values_of messages = map message_value messages

-- the Error code, where it is a NOTIFICATION
abbrev pub code_of : MessageValue → Option ℕ
code_of message = code_in message.kind message.octets

-- the first of them
abbrev pub first_of : List MessageValue → Option MessageValue
first_of [] = None
first_of (message ∷ later) = Some message
