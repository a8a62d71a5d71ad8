use Rattle.std.proofs.Common.{◌∙◌, sym}
use Rattle.bgp_text.proofs.Pieces.{Joins, and_then}
use Rattle.bgp_why.proofs.applying.put_disabled.Goals as goal

pub returns-then-has_some : goal.returns-then-has_some
returns-then-has_some g c =
    let law : Joins g.W.Sink = record { joined = g.met.W.Sink.joined } in
    rw (sym c.has_some.ensures ∙ c.if-has_some.true) (and_then law c.put.ensures (and_then law (rw (c.as_bytes.ensures.value, c.families_name.ensures) at c.put-then-has_some.ensures) c.put-then-has_some-2.ensures))
