-- What puts the lines of the messages of a session, and what it knows of those that came before.
use Rattle.std.specs.Prelude.{◌≡◌, ◌++◌, ℕ, Bool, List, Option, codes}
use Rattle.bgp_prefix.specs.Shown.{ShownRecord, Received as In, Sent as Out, Changed}
use Rattle.bgp_prefix.specs.declared.session.Session.{Session}
use Rattle.bgp_wire.specs.Header.{limit_with}
use Rattle.bgp_values.specs.Opens.{AreOpens, reading_by}
use Rattle.bgp_values.specs.declared.opens.Direction.TheVariants.{Received, Sent}
use Rattle.bgp_values.specs.declared.opens.Opens.{Opens}
use Rattle.bgp_lines.specs.Form.{Before, IsNamedMessage, PlacedRecord, placed_text}
use Rattle.bgp_lines.specs.Others.{named_change}
use Rattle.bgp_lines.specs.declared.form.LineForm.{LineForm}
use Rattle.bgp_lines.specs.declared.form.LineForm.TheVariants.{Plain, Names}
use Rattle.bgp_lines.specs.declared.teller.Teller.{Teller}

-- what a form depends on is known
abbrev pub KnowsFor : LineForm → Opens → Before → Type 0
KnowsFor Plain opens before = Unit {0}
KnowsFor (Names as2) opens before = AreOpens before.received before.sent opens

-- it knows what its lines depend on of these messages
abbrev pub Knows : Teller → Before → Type 0
Knows teller before = KnowsFor teller.form teller.opens before

abbrev pub placed_as : Option ℕ → ShownRecord → PlacedRecord
placed_as packet shown = record { packet = packet; shown = shown }

-- the text of a record in words, where these were the last OPENs
abbrev pub NamesRecord : Session → Opens → Bool → Option ℕ → ShownRecord → List ℕ → Type 0
NamesRecord session opens as2 packet (In second octets) text =
    (told : List ℕ)
    × IsNamedMessage (reading_by as2 Received opens) (limit_with session.extended) octets told
    × (text ≡ placed_text second packet (codes " received ") told)
NamesRecord session opens as2 packet (Out second octets) text =
    (told : List ℕ)
    × IsNamedMessage (reading_by as2 Sent opens) (limit_with session.extended) octets told
    × (text ≡ placed_text second packet (codes " sent ") told)
NamesRecord session opens as2 packet (Changed second old new) text =
    text ≡ placed_text second packet (codes " ") (named_change old new)
