use Rattle.mrt.specs.Reader.{shown_of}
use Rattle.bgp_text.proofs.Pieces.{Joins, and_then}
use Rattle.bgp_ladder.proofs.Ends.{together}
use Rattle.bgp_ladder.specs.Ladder.{deed_pieces, front_pieces}
use Rattle.bgp_ladder.proofs.rows.put_row.Goals as goal

pub returns : goal.returns
returns g c =
    let law : Joins g.W.Sink = record { joined = g.met.W.Sink.joined } in
    let ladder = c.args.ladder.now in
    let entry = c.args.entry.now in
    let before = c.args.before.now in
    together (front_pieces ladder before.greatest before.previous c.args.number entry) (deed_pieces ladder.column (shown_of entry.record) c.args.text.now)
    (and_then law c.put_front.ensures c.put_shown.ensures)
