use Rattle.std.proofs.Common.{◌∙◌, append-nil, sym}
use Rattle.bgp_text.proofs.Pieces.{Joins, and_then}
use Rattle.bgp_why.proofs.applying.put_refused.Goals as goal

pub returns-then-has_update_error : goal.returns-then-has_update_error
returns-then-has_update_error g c =
    let law : Joins g.W.Sink = record { joined = g.met.W.Sink.joined } in
    rw (sym c.has_update_error.ensures ∙ c.if-has_update_error.true, append-nil)
    (and_then law c.put.ensures (and_then law c.put-then-has_update_error.ensures c.put_update_errors.ensures))
