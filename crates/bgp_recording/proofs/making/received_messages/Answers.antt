use Rattle.bgp_recording.proofs.Recordings.{heard_by}
use Rattle.bgp_recording.proofs.making.received_messages.Goals as goal

pub returns : goal.returns
returns g c =
    heard_by c.args.framing c.args.stream.now _ _ c.in_ok-givers.givers.items c.deref.result.now c.deref.ensures.value c.in_ok-givers.ensures.latest c.in_ok-framed.ensures
