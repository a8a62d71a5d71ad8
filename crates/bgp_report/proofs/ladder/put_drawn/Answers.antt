use Rattle.std.proofs.Common.{false, true}
use Rattle.bgp_text.proofs.Pieces.{Joins, and_then}
use Rattle.bgp_report.proofs.InLadders.{in_turn}
use Rattle.bgp_report.specs.Ladders.{end_pieces, start_by}
use Rattle.bgp_report.proofs.ladder.put_drawn.Goals as goal

pub returns-in-Ok : goal.returns-in-Ok
returns-in-Ok g c =
    let law : Joins g.W.Sink = record { joined = g.met.W.Sink.joined } in
    let names = c.args.names.now in
    let start = start_by c.args.is_open c.args.ladder.now.column c.args.ladder.now.numbering c.args.order.now names.summary.items names.left.items names.right.items in
    let (rows, are, put) = c.in-Ok.ensures.ok in
    (true, rows, are, in_turn start rows (end_pieces true) (and_then law c.put_start.ensures (and_then law put c.put_whole_end.ensures)))

pub returns-in-Err : goal.returns-in-Err
returns-in-Err g c =
    let law : Joins g.W.Sink = record { joined = g.met.W.Sink.joined } in
    let names = c.args.names.now in
    let start = start_by c.args.is_open c.args.ladder.now.column c.args.ladder.now.numbering c.args.order.now names.summary.items names.left.items names.right.items in
    let (front, behind, whole, put) = c.in-Err.ensures.err in
    (false, put.0, (front, behind, whole, put.1), in_turn start put.0 (end_pieces false) (and_then law c.put_start.ensures (and_then law put.2 c.put_cut_end.ensures)))
