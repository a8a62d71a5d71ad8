-- A message of another type than OPEN.
use Rattle.std.proofs.Common.{◌≡◌, ◌≢◌, ◌∙◌, ◌<◌, ℕ, List, arith, length, sym}
use Rattle.std.proofs.lemmas.List.{get_or-take}
use Rattle.std.proofs.lemmas.Bool.{lt-ltb}
use Rattle.bgp_wire.specs.Header.{header_of, type_of as type_in}
use Rattle.bgp_open.specs.OpenFault.{IsWellFormed}
use Rattle.bgp_values.proofs.LastOffer.{no_open}
use Rattle.bgp_values.specs.Opens.{AreOpens, received_with, sent_with}
use Rattle.bgp_values.specs.declared.opens.Direction.{Direction}
use Rattle.bgp_values.specs.declared.opens.Direction.TheVariants.{Received, Sent}
use Rattle.bgp_values.specs.declared.opens.Opens.{Opens}
use Rattle.bgp_ladder.specs.Runs.{type_of}

type_by : (octets : List ℕ) (kind : ℕ) → 18 < length octets → type_in (header_of octets) ≡ kind → type_of octets ≡ kind
unfolding type_in
type_by octets kind within is = rw (lt-ltb 18 (length octets) within) (sym (get_or-take 19 octets 18 0 (omega arith)) ∙ is)

-- it is no well-formed one
not_well : (octets : List ℕ) → type_of octets ≢ 1 → ¬ IsWellFormed octets
not_well octets other well =
    let message = well.readable.whole.message in
    let header = message.header in
    other (type_by octets 1 (omega (arith, header)) message.type_field)

-- so it doesn't count
pub no_open_came : (direction : Direction) (octets : List ℕ) (received sent : List (List ℕ)) (opens : Opens) → type_of octets ≢ 1
    → AreOpens received sent opens → AreOpens (received_with direction octets received) (sent_with direction octets sent) opens
no_open_came Received octets received sent opens other are = record {
  last_received = no_open received opens.received octets (not_well octets other) are.last_received;
  last_sent = are.last_sent;
}
no_open_came Sent octets received sent opens other are = record {
  last_received = are.last_received;
  last_sent = no_open sent opens.sent octets (not_well octets other) are.last_sent;
}
