-- The line of a message in words.
use Rattle.std.specs.Prelude.{◌++◌, ℕ, List, codes}
use Rattle.bgp_wire.specs.Message.{body_of}
use Rattle.bgp_text.specs.Message.{Message, open_message, malformed_open_message, update_message}
use Rattle.bgp_text.specs.Message.{malformed_update_message, notification_message}
use Rattle.bgp_text.specs.Message.{keepalive_message}
use Rattle.bgp_text.specs.Text.{hex_text}
use Rattle.bgp_values.specs.ErrorData.{ErrorFields}
use Rattle.bgp_values.specs.declared.opens.Reading.{Reading}
use Rattle.bgp_lines.specs.Notifications.{named_notification}
use Rattle.bgp_lines.specs.OpenLine.{named_malformed_open, named_open}
use Rattle.bgp_lines.specs.UpdateLine.{named_update}

-- an UPDATE whose form is wrong: the octets behind its header
abbrev pub named_malformed_update : List ℕ → List ℕ
named_malformed_update body = codes "update malformed: " ++ hex_text body

abbrev pub fields_of : ℕ → ℕ → List ℕ → ErrorFields
fields_of code subcode detail = record { code = code; subcode = subcode; detail = detail }

-- the line of a message that a frame says, without its end, where UPDATEs are read so
abbrev pub named_text : Reading → List ℕ → Message → List ℕ
named_text reading frame (open_message fields) = named_open fields
named_text reading frame (malformed_open_message fault) =
    named_malformed_open fault (body_of frame)
named_text reading frame (update_message parts) = named_update reading parts
named_text reading frame malformed_update_message = named_malformed_update (body_of frame)
named_text reading frame (notification_message code subcode detail) =
    named_notification (fields_of code subcode detail)
named_text reading frame keepalive_message = codes "keepalive"
