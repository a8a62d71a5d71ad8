-- What puts the objects of the messages of a session knows what the OPENs before settle.
use Rattle.std.specs.Prelude.{◌≡◌, ℕ, Bool, Option}
use Rattle.json.specs.Json.{Json}
use Rattle.bgp_prefix.specs.Shown.{ShownRecord, Received as In, Sent as Out, Changed}
use Rattle.bgp_prefix.specs.declared.session.Session.{Session}
use Rattle.bgp_wire.specs.Header.{limit_with}
use Rattle.bgp_values.specs.Opens.{AreOpens, reading_by}
use Rattle.bgp_values.specs.declared.opens.Direction.TheVariants.{Received, Sent}
use Rattle.bgp_values.specs.declared.opens.Opens.{Opens}
use Rattle.bgp_lines.specs.Form.{Before}
use Rattle.bgp_json.specs.Others.{change_json}
use Rattle.bgp_json.specs.RecordJson.{IsMessageJson, place_at}
use Rattle.bgp_json.specs.declared.place.Place.TheVariants.{InRecord}
use Rattle.bgp_json.specs.declared.teller.JsonTeller.{JsonTeller}

-- it knows the last OPENs of these messages
abbrev pub Knows : JsonTeller → Before → Type 0
Knows teller before = AreOpens before.received before.sent teller.opens

-- what the record with this number shows, where these were the last OPENs
abbrev pub ShowsJson : Session → Opens → Bool → ℕ → Option ℕ → ShownRecord → Json → Type 0
ShowsJson session opens as2 number packet (In second octets) value =
    IsMessageJson (reading_by as2 Received opens) (limit_with session.extended)
    (InRecord (place_at number second packet) Received) octets value
ShowsJson session opens as2 number packet (Out second octets) value =
    IsMessageJson (reading_by as2 Sent opens) (limit_with session.extended)
    (InRecord (place_at number second packet) Sent) octets value
ShowsJson session opens as2 number packet (Changed second old new) value =
    value ≡ change_json (place_at number second packet) old new
