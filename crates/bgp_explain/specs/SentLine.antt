-- The line of the impossible record's message, in words: what it says, or the data of a
-- NOTIFICATION.
use Rattle.std.specs.Prelude.{◌≡◌, ◌⊎◌, ℕ, List, [], ◌∷◌, Option, None, Some}
use Rattle.bgp_prefix.specs.Shown.{ShownRecord, Received, Sent, Changed}
use Rattle.bgp_prefix.specs.declared.session.Session.{Session}
use Rattle.bgp_wire.specs.declared.header.Limit.{Limit}
use Rattle.bgp_wire.specs.Header.{limit_with}
use Rattle.bgp_open.specs.declared.config.Config.{Config}
use Rattle.bgp_open.specs.declared.link.Link.{Link}
use Rattle.bgp_open.specs.Notification.{IsNotification}
use Rattle.bgp_open.specs.RouteForm.{plain_form}
use Rattle.bgp_values.specs.ErrorData.{ErrorFields}
use Rattle.bgp_values.specs.declared.opens.Reading.{Reading}
use Rattle.bgp_lines.specs.Form.{IsNamedMessage}
use Rattle.bgp_lines.specs.Notifications.{error_data_text}
use Rattle.bgp_why.specs.Lacks.{IsWholeOf}
use Rattle.bgp_why.specs.MessageLine.{data_line, message_line}

-- How a message is read that is sent: by the link, if one is settled. Before that routes have the
-- plain form, and AS numbers are as wide as the local system offers them.
abbrev pub sent_reading : Config → Option Link → Reading
sent_reading config None = record { form = plain_form; as4 = config.parts.as4 }
sent_reading config (Some link) = record { form = link.sent; as4 = link.as4 }

-- what the data of an error say, if it has any
abbrev pub detail_line : ErrorFields → List ℕ → List ℕ
detail_line error [] = []
detail_line error (octet ∷ octets) = data_line (error_data_text error)

abbrev pub error_line : ErrorFields → List ℕ
error_line error = detail_line error error.detail

-- of a NOTIFICATION, which it is
abbrev pub IsErrorLine : List ℕ → List ℕ → Type 0
IsErrorLine octets text =
    (error : ErrorFields) × IsNotification octets error.code error.subcode error.detail
    × (text ≡ error_line error)

-- what a message says, or the faults of its header
abbrev pub IsWordsLine : Reading → Limit → List ℕ → List ℕ → Type 0
IsWordsLine reading limit octets text =
    (words : List ℕ) × IsNamedMessage reading limit octets words × (text ≡ message_line words)

-- Of a message that may be so long: none of a KEEPALIVE, of a NOTIFICATION that of its data, and
-- else that of its words.
abbrev pub IsOctetsLine : Reading → Limit → List ℕ → List ℕ → Type 0
IsOctetsLine reading limit octets text =
    (IsWholeOf limit 4 octets × (text ≡ []))
    ⊎ (IsWholeOf limit 3 octets × IsErrorLine octets text)
    ⊎ ((¬ IsWholeOf limit 4 octets) × (¬ IsWholeOf limit 3 octets)
    × IsWordsLine reading limit octets text)

-- of a record that a capture of the session may have: none if nothing was sent
abbrev pub IsLineOf : Config → Session → Option Link → ShownRecord → List ℕ → Type 0
IsLineOf config session link (Received second octets) text = text ≡ []
IsLineOf config session link (Sent second octets) text =
    IsOctetsLine (sent_reading config link) (limit_with session.extended) octets text
IsLineOf config session link (Changed second old new) text = text ≡ []

-- of the next record, if there is one
abbrev pub IsSentLine : Config → Session → Option Link → Option (ℕ × ShownRecord) → List ℕ → Type 0
IsSentLine config session link None text = text ≡ []
IsSentLine config session link (Some next) text = IsLineOf config session link next.1 text
