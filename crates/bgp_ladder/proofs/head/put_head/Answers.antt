use Rattle.bgp_text.proofs.Pieces.{Joins, and_then}
use Rattle.bgp_ladder.proofs.Ends.{together}
use Rattle.bgp_ladder.specs.Ladder.{end_heads}
use Rattle.bgp_ladder.specs.Numbering.{counted_heads}
use Rattle.bgp_ladder.proofs.head.put_head.Goals as goal

pub returns : goal.returns
returns g c =
    let law : Joins g.W.Sink = record { joined = g.met.W.Sink.joined } in
    and_then law c.put_tag.ensures (and_then law c.put_escaped.ensures (and_then law c.put_tag-2.ensures
    (together (counted_heads c.args.numbering) (end_heads c.args.left.now c.args.right.now) (and_then law c.put_heads.ensures c.put_ends.ensures))))
