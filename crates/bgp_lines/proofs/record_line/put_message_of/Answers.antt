use Rattle.std.proofs.Common.{subst, sym}
use Rattle.bgp_wire.specs.declared.header.Limit.{Limit}
use Rattle.mrt.specs.Rules.{HasOtherLength}
use Rattle.bgp_text.proofs.Pieces.{Joins, and_then}
use Rattle.bgp_lines.specs.Form.{IsNamedMessage, placed_text}
use Rattle.bgp_lines.proofs.record_line.put_message_of.Goals as goal

pub put_named_message-requires-clause-whole : goal.put_named_message-requires-clause-whole
put_named_message-requires-clause-whole g c =
    subst (λ (limit : Limit). ¬ HasOtherLength limit c.args.octets.now) (sym c.with_extended.ensures) c.requires.whole

pub returns : goal.returns
unfolding placed_text
returns g c =
    let law : Joins g.W.Sink = record { joined = g.met.W.Sink.joined } in
    let (said, is, wrote) = c.put_named_message.ensures in
    let text = and_then law c.put.ensures (and_then law c.put_decimal.ensures (and_then law c.put_packet.ensures (and_then law c.put-2.ensures wrote))) in
    let told = subst (λ (limit : Limit). IsNamedMessage c.args.reading limit c.args.octets.now said) c.with_extended.ensures is in
    (said, told, rw (c.as_bytes.ensures.value) at text)
