use Rattle.std.proofs.Common.{◌∙◌, append-nil, sym}
use Rattle.bgp_text.proofs.Pieces.{Joins, and_then}
use Rattle.bgp_why.proofs.applying.put_applied.Goals as goal

pub returns-clause-writes : goal.returns-clause-writes
returns-clause-writes g c =
    let law : Joins g.W.Sink = record { joined = g.met.W.Sink.joined } in
    let may = sym c.may_disable_these.ensures ∙ c.if-not-may_disable_these.false in
    rw (c.in-Some.is, may, append-nil)
    (and_then law c.put.ensures (and_then law (rw c.applied_text.ensures at c.put-2.ensures) c.put_disabled.ensures))
