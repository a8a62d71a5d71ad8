use Rattle.std.proofs.Common.{◌∙◌, Some, ap, refl}
use Rattle.bgp_orders.proofs.Tracks.{walks_all, walks_first, walks_more, walks_within}
use Rattle.bgp_orders.proofs.tracing.track_back.Goals as goal

pub loop-start-init : goal.loop-start-init
loop-start-init g c =
    let walks = walks_first c.args.origins.now c.args.last c.args.last c.new-steps.result.items refl c.new-steps.ensures.items c.requires in
    record { walks = walks; below = walks_within c.args.origins.now c.args.last c.args.last c.new-steps.result.items walks }

pub returns-in-Start : goal.returns-in-Start
returns-in-Start g c =
    walks_all c.args.origins.now c.args.last c.loop-start.place c.loop-start.steps.items c.reverse.new.self.items c.in-Start.start (c.origin_at.ensures ∙ ap Some c.in-Start.is) c.loop-start.invariant.walks
    c.reverse.ensures.items

pub loop-start-smaller : goal.loop-start-smaller
loop-start-smaller g c =
    (walks_more c.args.origins.now c.args.last c.loop-start.place c.loop-start.steps.items c.push.new.self.items c.in-Behind.step c.in-Behind.before (c.origin_at.ensures ∙ ap Some c.in-Behind.is)
    c.loop-start.invariant.walks c.in_ok-push-in-Behind.ensures.items).1

pub loop-start-preserved : goal.loop-start-preserved
loop-start-preserved g c =
    let next = walks_more c.args.origins.now c.args.last c.loop-start.place c.loop-start.steps.items c.push.new.self.items c.in-Behind.step c.in-Behind.before (c.origin_at.ensures ∙ ap Some c.in-Behind.is)
    c.loop-start.invariant.walks c.in_ok-push-in-Behind.ensures.items in
    record { walks = next.0; below = walks_within c.args.origins.now c.args.last c.in-Behind.before c.push.new.self.items next.0 }
