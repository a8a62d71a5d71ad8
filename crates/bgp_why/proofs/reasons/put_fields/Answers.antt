use Rattle.std.proofs.Common.{codes, []}
use Rattle.bgp_text.proofs.Pieces.{Joins, and_then}
use Rattle.bgp_why.specs.Reasons.{parameter_piece, as_piece, identifier_piece, hold_piece}
use Rattle.bgp_why_parts.proofs.Separated.{four_pieces}
use Rattle.bgp_why.proofs.reasons.put_fields.Goals as goal

pub returns : goal.returns
returns g c =
    let law : Joins g.W.Sink = record { joined = g.met.W.Sink.joined } in
    let reasons = c.args.reasons.now in
    let first = c.put_parameter-first.ensures in
    let second = c.put_peer_as-second.ensures in
    let third = c.put_identifier-third.ensures in
    rw
    (four_pieces (codes "; ") [] c.put_parameter-first.result.now c.put_peer_as-second.result.now c.put_identifier-third.result.now
    (parameter_piece reasons.other_parameter) (as_piece c.args.is_free reasons.configured_as reasons.peer_as) (identifier_piece reasons.identifier) (hold_piece reasons.hold)
    first.next second.next third.next)
    (and_then law first.writes (and_then law second.writes (and_then law third.writes c.put_hold.ensures)))
