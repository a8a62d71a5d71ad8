use Rattle.std.proofs.Common.{codes, true, false}
use Rattle.bgp_text.proofs.Pieces.{Joins, and_then}
use Rattle.bgp_why.specs.Applying.{applied_piece, or_else, refused_piece, these}
use Rattle.bgp_why_parts.proofs.Separated.{five_pieces}
use Rattle.bgp_why.proofs.applying.put_outcomes.Goals as goal

pub returns : goal.returns
returns g c =
    let law : Joins g.W.Sink = record { joined = g.met.W.Sink.joined } in
    let applied = c.args.applied in
    rw
    (five_pieces or_else (codes ": ") c.put_applied-first.result.now c.put_applied-second.result.now c.put_applied-third.result.now c.put_applied-fourth.result.now
    (applied_piece applied (these false false)) (applied_piece applied (these true false)) (applied_piece applied (these false true)) (applied_piece applied (these true true)) (refused_piece c.args.refused.now)
    c.put_applied-first.ensures.next c.put_applied-second.ensures.next c.put_applied-third.ensures.next c.put_applied-fourth.ensures.next)
    (and_then law c.put_applied-first.ensures.writes (and_then law c.put_applied-second.ensures.writes (and_then law c.put_applied-third.ensures.writes
    (and_then law c.put_applied-fourth.ensures.writes c.put_refused.ensures))))
