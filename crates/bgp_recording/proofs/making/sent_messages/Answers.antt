use Rattle.bgp_recording.proofs.Recordings.{said_by}
use Rattle.bgp_recording.proofs.making.sent_messages.Goals as goal

pub returns : goal.returns
returns g c =
    said_by c.args.framing c.args.stream.now c.args.end c.own_end.result _ _ c.in_ok-givers.givers.items c.deref.result.now c.own_end.ensures c.deref.ensures.value c.in_ok-givers.ensures.earliest
    c.in_ok-framed.ensures
