use Rattle.std.proofs.Common.{◌++◌, refl, codes}
use Rattle.bgp_text.proofs.Pieces.{Joins, and_then}
use Rattle.bgp_text.proofs.records.put_record.Goals as goal

pub returns : goal.returns
returns g c =
    let law : Joins g.W.Sink = record { joined = g.met.W.Sink.joined } in
    let (text, is, wrote) = c.put_record_text.ensures in
    (text ++ codes "\n", (text, is, refl), and_then law wrote c.put.ensures)
