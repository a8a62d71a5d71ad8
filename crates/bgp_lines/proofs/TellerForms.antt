-- What is known in each form of the messages that came before.
use Rattle.std.proofs.Common.{◌≡◌, ℕ, Bool, List, Option, refl}
use Rattle.bgp_prefix.specs.Shown.{ShownRecord, Received, Sent, Changed}
use Rattle.bgp_prefix.specs.declared.session.Session.{Session}
use Rattle.bgp_values.specs.Opens.{AreOpens}
use Rattle.bgp_values.specs.declared.opens.Opens.{Opens}
use Rattle.bgp_lines.specs.Form.{Before, IsNamedRecord}
use Rattle.bgp_lines.specs.Telling.{KnowsFor, NamesRecord}
use Rattle.bgp_lines.specs.declared.form.LineForm.{LineForm}
use Rattle.bgp_lines.specs.declared.form.LineForm.TheVariants.{Plain, Names}

pub known_for : (form : LineForm) (opens : Opens) (before : Before) → AreOpens before.received before.sent opens → KnowsFor form opens before
known_for Plain opens before known = tt
known_for (Names as2) opens before known = known

-- a record is read by the last OPENs before it
pub named_at : (session : Session) (before : Before) (opens : Opens) (as2 : Bool) (packet : Option ℕ) (shown : ShownRecord) (text : List ℕ)
    → AreOpens before.received before.sent opens → NamesRecord session opens as2 packet shown text → IsNamedRecord session before as2 packet shown text
named_at session before opens as2 packet (Received second octets) text known names = (names.0, (_, (opens, known, refl), names.1), names.2)
named_at session before opens as2 packet (Sent second octets) text known names = (names.0, (_, (opens, known, refl), names.1), names.2)
named_at session before opens as2 packet (Changed second old new) text known names = names
