-- By which name a message is called.
use Rattle.std.specs.Prelude.{◌≡◌, ◌⊎◌, ◌++◌, ◌==◌, ◌&&◌, not, ℕ, Bool, false, List, Option, None}
use Rattle.std.specs.Prelude.{Some, if◌then◌else◌, codes, is_some}
use Rattle.bgp_wire.specs.declared.header.HeaderFaults.{HeaderFaults}
use Rattle.bgp_wire.specs.declared.header.Limit.{Limit}
use Rattle.bgp_wire.specs.Framing.{IsFrame, IsFaulty}
use Rattle.bgp_wire.specs.Header.{header_of}
use Rattle.bgp_wire.specs.Verdict.{AreEachFault}
use Rattle.bgp_open.specs.declared.route_form.RouteForm.{RouteForm}
use Rattle.bgp_text.specs.Message as said
use Rattle.bgp_why_parts.specs.Codes.{full_code_text}
use Rattle.bgp_why.specs.declared.message.MessageName as declared
use Rattle.bgp_why.specs.declared.message.MessageName.TheVariants as names
use Rattle.bgp_why.specs.Errors.{errors_in, errors_text, header_faults}

-- the name of what a frame says
abbrev pub name_of : said.Message → declared.MessageName
name_of (said.open_message fields) = names.Open
name_of (said.malformed_open_message fault) = names.MalformedOpen
name_of (said.update_message parts) = names.Update
name_of said.malformed_update_message = names.MalformedUpdate
name_of (said.notification_message code subcode detail) = names.Notification code subcode
name_of said.keepalive_message = names.Keepalive

-- The name of a message's octets, where it may be so long and routes are spelled in this form: by
-- what they say, or by the faults of the header.
abbrev pub IsNamed : RouteForm → Limit → List ℕ → declared.MessageName → Type 0
IsNamed form limit octets name =
    (IsFrame limit octets
    × ((message : said.Message) × said.Says form octets message × (name ≡ name_of message)))
    ⊎ (IsFaulty limit octets
    × ((faults : HeaderFaults) × AreEachFault limit (header_of octets) faults
    × (name ≡ names.FaultyHeader faults)))

-- ---- the text

abbrev pub is_type_5 : Option ℕ → Bool
is_type_5 None = false
is_type_5 (Some kind) = kind == 5

-- the only fault is that the type is that of ROUTE-REFRESH (RFC 2918, 3)
abbrev pub is_refresh : HeaderFaults → Bool
is_refresh faults = not faults.marker && (not (is_some faults.length) && is_type_5 faults.kind)

-- a header with faults
abbrev pub faulty_text : HeaderFaults → List ℕ
faulty_text faults =
    if is_refresh faults
    then codes "ROUTE-REFRESH, read as a faulty header, 1/3 (Bad Message Type)"
    else codes "a faulty header, " ++ errors_text (codes " and ") (errors_in (header_faults faults))

-- how a message is called
unfoldable pub name_text : declared.MessageName → List ℕ
name_text names.Open = codes "OPEN"
name_text names.MalformedOpen = codes "malformed OPEN"
name_text names.Update = codes "UPDATE"
name_text names.MalformedUpdate = codes "malformed UPDATE"
name_text names.Keepalive = codes "KEEPALIVE"
name_text (names.Notification code subcode) =
    codes "NOTIFICATION " ++ full_code_text code subcode
name_text (names.FaultyHeader faults) = faulty_text faults
