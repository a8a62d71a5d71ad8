-- What a record shows by the last OPENs before it.
use Rattle.std.proofs.Common.{ℕ, Bool, Option, refl}
use Rattle.json.specs.Json.{Json}
use Rattle.bgp_prefix.specs.Shown.{ShownRecord, Received as In, Sent as Out, Changed}
use Rattle.bgp_prefix.specs.declared.session.Session.{Session}
use Rattle.bgp_values.specs.Opens.{AreOpens, reading_by}
use Rattle.bgp_values.specs.declared.opens.Direction.TheVariants.{Received, Sent}
use Rattle.bgp_values.specs.declared.opens.Opens.{Opens}
use Rattle.bgp_lines.specs.Form.{Before}
use Rattle.bgp_json.specs.RecordJson.{IsShownJson}
use Rattle.bgp_json.specs.Telling.{ShowsJson}

pub shown_at : (session : Session) (before : Before) (opens : Opens) (as2 : Bool) (number : ℕ) (packet : Option ℕ) (shown : ShownRecord) (value : Json)
    → AreOpens before.received before.sent opens → ShowsJson session opens as2 number packet shown value → IsShownJson session before as2 number packet shown value
shown_at session before opens as2 number packet (In second octets) value known shows = (reading_by as2 Received opens, (opens, known, refl), shows)
shown_at session before opens as2 number packet (Out second octets) value known shows = (reading_by as2 Sent opens, (opens, known, refl), shows)
shown_at session before opens as2 number packet (Changed second old new) value known shows = shows
