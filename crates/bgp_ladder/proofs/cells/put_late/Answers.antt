use Rattle.bgp_text.proofs.Pieces.{Joins, and_then}
use Rattle.bgp_ladder.proofs.Ends.{in_words}
use Rattle.bgp_ladder.specs.Ladder.{elapsed_words}
use Rattle.bgp_ladder.proofs.cells.put_late.Goals as goal

pub returns : goal.returns
returns g c =
    let law : Joins g.W.Sink = record { joined = g.met.W.Sink.joined } in
    in_words (elapsed_words c.args.ladder.now c.args.entry.now) _ (and_then law c.put_elapsed.ensures c.put_escaped.ensures)
