use Rattle.bgp_text.proofs.Pieces.{Joins, and_then}
use Rattle.bgp_ladder.proofs.Ends.{together}
use Rattle.bgp_ladder.specs.Ladder.{message_pieces}
use Rattle.bgp_ladder.specs.Numbering.{blank_cells}
use Rattle.bgp_ladder.proofs.possible.put_possible_row.Goals as goal

pub returns : goal.returns
returns g c =
    let law : Joins g.W.Sink = record { joined = g.met.W.Sink.joined } in
    and_then law c.put_tag.ensures
    (together (blank_cells c.args.numbering) (message_pieces c.args.line.now) (and_then law c.put_blanks.ensures c.put_message.ensures))
