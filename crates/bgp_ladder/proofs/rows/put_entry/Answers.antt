use Rattle.std.proofs.Common.{◌++◌, refl}
use Rattle.bgp_text.proofs.Pieces.{Joins, and_then}
use Rattle.bgp_ladder.proofs.Ends.{together}
use Rattle.bgp_ladder.specs.Possible.{behind_pieces}
use Rattle.bgp_ladder.proofs.rows.put_entry.Goals as goal

pub returns : goal.returns
returns g c opens shown =
    let law : Joins g.W.Sink = record { joined = g.met.W.Sink.joined } in
    let own = c.put_part.ensures opens shown in
    let behind = behind_pieces c.args.ladder.now c.args.possible.now c.args.number in
    (own.0 ++ behind, (own.0, own.1, refl), together own.0 behind (and_then law own.2 c.put_behind.ensures))
