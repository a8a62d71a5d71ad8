use Rattle.std.proofs.Common.{subst}
use Rattle.bgp_values.specs.declared.opens.Reading.{Reading}
use Rattle.bgp_ladder.specs.Deed.{IsMessageText}
use Rattle.bgp_ladder.proofs.deed.put_deed_text.Goals as goal

pub returns-in-In : goal.returns-in-In
returns-in-In g c =
    let said = c.put_message_text.ensures in
    rw c.in-In.is (
      said.0,
      subst (λ (r : Reading). IsMessageText r c.args.framings.received.limit c.in-In.octets.now said.0) c.reading-reading.ensures said.1,
      said.2,
    )

pub returns-in-Out : goal.returns-in-Out
returns-in-Out g c =
    let said = c.put_message_text-in-Out.ensures in
    rw c.in-Out.is (
      said.0,
      subst (λ (r : Reading). IsMessageText r c.args.framings.sent.limit c.in-Out.octets.now said.0) c.reading-reading-in-Out.ensures said.1,
      said.2,
    )
