use Rattle.std.proofs.Common.{refl}
use Rattle.bgp_recording.proofs.Splitting.{split_fault, split_kept, split_passed, split_short}
use Rattle.bgp_recording.proofs.framing.split_messages.Goals as goal

pub returns-in-None : goal.returns-in-None
returns-in-None g c =
    split_short c.args.framing c.args.direction c.args.givers.now c.args.octets.now c.split_at.result.1.now c.loop-rest.place c.loop-rest.passed_over _ c.loop-rest.cursor c.loop-rest.messages.items
    c.loop-rest.invariant c.split_at.ensures.back c.in-None.ensures refl

pub loop-rest-preserved-in-Some-PassedOver : goal.loop-rest-preserved-in-Some-PassedOver
loop-rest-preserved-in-Some-PassedOver g c =
    let front = c.in-Some-PassedOver in
    let is = rw front.field-0-is at front.ensures in
    split_passed c.args.framing c.args.direction c.args.givers.now c.args.octets.now c.split_at.result.1.now front.refresh.now c.loop-rest.place c.loop-rest.passed_over c.loop-rest.cursor
    c.loop-rest.messages.items c.loop-rest.invariant c.split_at.ensures.back is.0 is.1 is.2

pub loop-rest-preserved : goal.loop-rest-preserved
loop-rest-preserved g c =
    let front = c.in-Some-Message in
    let is = rw front.field-0-is at front.ensures in
    let m = c.message_at in
    split_kept c.args.framing c.args.direction c.args.givers.now c.args.octets.now c.split_at.result.1.now front.octets.now c.loop-rest.place c.loop-rest.passed_over c.loop-rest.cursor m.new.cursor
    c.loop-rest.messages.items c.push.new.self.items m.result front.kind c.loop-rest.invariant c.split_at.ensures.back is.0 is.1 is.2 m.ensures.octets m.ensures.kind
    m.ensures.stamped m.ensures.at m.ensures.base c.in_ok-push-in-Some-Message.ensures.items

pub returns-in-Some-Fault : goal.returns-in-Some-Fault
returns-in-Some-Fault g c =
    let front = c.in-Some-Fault in
    let is = rw front.field-0-is at front.ensures in
    let m = c.message_at-in-Some-Fault in
    split_fault c.args.framing c.args.direction c.args.givers.now c.args.octets.now c.split_at.result.1.now front.header.now c.loop-rest.place c.loop-rest.passed_over _ front.is_refresh
    c.loop-rest.cursor c.loop-rest.messages.items c.push-in-Some-Fault.new.self.items m.result c.loop-rest.invariant c.split_at.ensures.back is.0 is.1 is.2
    m.ensures.octets m.ensures.kind m.ensures.stamped refl c.in_ok-push-in-Some-Fault.ensures.items
