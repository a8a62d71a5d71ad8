use Rattle.std.proofs.Common.{◌++◌, refl}
use Rattle.bgp_text.proofs.Pieces.{Joins, and_then}
use Rattle.bgp_ladder.proofs.Ends.{together}
use Rattle.bgp_ladder.specs.Possible.{last_pieces}
use Rattle.bgp_ladder.proofs.rows.put_rows.Goals as goal

pub returns-clause-ok : goal.returns-clause-ok
returns-clause-ok g c =
    let law : Joins g.W.Sink = record { joined = g.met.W.Sink.joined } in
    let rows = c.in_ok-put_all.ensures.ok in
    let last = last_pieces c.args.ladder.now c.args.possible.now in
    (rows.0 ++ last, (rows.0, rows.1, refl), together rows.0 last (and_then law rows.2 c.put_last.ensures))
