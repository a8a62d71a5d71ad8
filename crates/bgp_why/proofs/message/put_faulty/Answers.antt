use Rattle.std.proofs.Common.{◌∙◌, sym}
use Rattle.bgp_text.proofs.Pieces.{Joins, and_then}
use Rattle.bgp_why.proofs.message.put_faulty.Goals as goal

pub returns-else-is_refresh : goal.returns-else-is_refresh
returns-else-is_refresh g c =
    let law : Joins g.W.Sink = record { joined = g.met.W.Sink.joined } in
    rw (sym c.is_refresh.ensures ∙ c.if-is_refresh.false) (and_then law c.put-else-is_refresh.ensures (rw c.header_faults.ensures at c.put_errors.ensures))
