use Rattle.bgp_recording.proofs.Recordings.{recorded_of}
use Rattle.bgp_recording.proofs.making.make_records.Goals as goal

pub returns-clause-told : goal.returns-clause-told
returns-clause-told g c =
    let framed = c.in_ok-framed.framed in
    let made = c.in_ok-entries.ensures in
    λ clocked. recorded_of c.args.framings c.args.within c.args.connection.now c.exchange.result c.in_ok-entries.entries.items framed.received.messages.items framed.sent.messages.items
    framed.received.unshown framed.sent.unshown c.exchange.ensures c.in_ok-framed.ensures.received c.in_ok-framed.ensures.sent clocked made.told made.seconds made.order
