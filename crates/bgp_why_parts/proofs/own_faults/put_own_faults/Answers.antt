use Rattle.std.proofs.Common.{codes}
use Rattle.bgp_names.proofs.Pieces.{Joins, and_then}
use Rattle.bgp_why_parts.specs.OwnFaults.{as_piece, hold_piece, id_piece}
use Rattle.bgp_why_parts.proofs.Separated.{three_pieces}
use Rattle.bgp_why_parts.proofs.own_faults.put_own_faults.Goals as goal

pub returns : goal.returns
returns g c =
    let law : Joins g.W.Sink = record { joined = g.met.W.Sink.joined } in
    let faults = c.args.faults.now in
    let first = c.put_as_numbers-first.ensures in
    let second = c.put_id-second.ensures in
    rw (three_pieces (codes " and ") c.args.before.now c.put_as_numbers-first.result.now c.put_id-second.result.now (as_piece faults.as_numbers) (id_piece faults.id) (hold_piece faults.hold) first.next second.next)
    (and_then law first.writes (and_then law second.writes c.put_hold.ensures))
