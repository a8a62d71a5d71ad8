use Rattle.std.proofs.Common.{List, ℕ, subst}
use Rattle.bgp_text.specs.Lines.{Writes}
use Rattle.bgp_text.proofs.Pieces.{Joins, and_then}
use Rattle.mrt_sessions.specs.Sessions.{held_records, held_sessions}
use Rattle.bgp_list.specs.Sessions.{session_line}
use Rattle.bgp_list.proofs.Texts.{texts_with}
use Rattle.bgp_list.proofs.capture.put_sessions.Goals as goal

pub loop-addresses-preserved : goal.loop-addresses-preserved
loop-addresses-preserved g c =
    let law : Joins g.W.Sink = record { joined = g.met.W.Sink.joined } in
    subst (λ (t : List ℕ). Writes c.args.lines.now c.put_held.new.lines t)
    (texts_with (λ a. session_line a (held_records c.args.sessions.now a)) c.in_order-addresses-items.result.now (held_sessions c.args.sessions.now) c.loop-addresses.addresses-index _
    c.in_order-addresses-items.ensures c.loop-addresses-test.true)
    (and_then law c.loop-addresses.invariant c.put_held.ensures)
