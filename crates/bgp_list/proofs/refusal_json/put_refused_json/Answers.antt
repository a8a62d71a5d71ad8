use Rattle.std.proofs.Common.{List, ℕ, subst}
use Rattle.bgp_text.proofs.Pieces.{Joins, and_then}
use Rattle.bgp_text.specs.Lines.{Writes}
use Rattle.bgp_list.proofs.RefusalPrinted.{refused_printed, refused_value}
use Rattle.bgp_list.proofs.refusal_json.put_refused_json.Goals as goal

pub returns-clause-wrote : goal.returns-clause-wrote
returns-clause-wrote g c =
    let law : Joins g.W.Sink = record { joined = g.met.W.Sink.joined } in
    let front = rw (c.number.ensures, c.name.ensures) at c.put_front.ensures.wrote in
    let end = rw c.packet.ensures at c.put_packet_end.ensures.wrote in
    subst (λ (t : List ℕ). Writes c.args.lines.now c.put_packet_end.new.lines t) (refused_printed c.args.refusal) (and_then law front end)

pub returns-clause-is_value : goal.returns-clause-is_value
returns-clause-is_value g c = refused_value c.args.refusal (rw c.number.ensures at c.put_front.ensures.fits) (rw c.packet.ensures at c.put_packet_end.ensures.fits)
