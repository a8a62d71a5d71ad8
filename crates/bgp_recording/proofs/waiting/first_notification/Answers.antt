use Rattle.std.proofs.Common.{◌∙◌, sym}
use Rattle.bgp_recording.proofs.MadeOrders.{notification_here, notification_before, no_notification}
use Rattle.bgp_recording.proofs.waiting.first_notification.Goals as goal

pub returns-in-Some : goal.returns-in-Some
returns-in-Some c =
    sym (notification_here c.args.sent.now c.loop-place.place _ c.in-Some.code c.loop-place-test.true (sym c.error_code.ensures ∙ c.in-Some.is)) ∙ c.loop-place.invariant

pub loop-place-preserved : goal.loop-place-preserved
loop-place-preserved c =
    sym (notification_before c.args.sent.now c.loop-place.place _ c.loop-place-test.true (sym c.error_code.ensures ∙ c.in_default.is)) ∙ c.loop-place.invariant

pub returns : goal.returns
returns c = sym (no_notification c.args.sent.now c.loop-place.place c.loop-place-test.false) ∙ c.loop-place.invariant
