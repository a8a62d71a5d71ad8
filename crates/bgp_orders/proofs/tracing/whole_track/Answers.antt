use Rattle.std.proofs.Common.{reverse, subst, sym}
use Rattle.bgp_orders.specs.Tracks.{IsTracked, IsTrailToLast, TracksBack}
use Rattle.bgp_orders.proofs.Counts.{some_is}
use Rattle.bgp_orders.proofs.Tracks.{leads_to_last, tracked_last}
use Rattle.bgp_orders.proofs.tracing.whole_track.Goals as goal

pub track_back-requires : goal.track_back-requires
track_back-requires g c =
    let s = c.args.search.now in
    let trail = c.in-Some.trail in
    let to = some_is c.in_ok-trail.field-0 trail (λ it. IsTrailToLast s.config s.within s.exchange it.origins.items it.last) c.in-Some.is c.in_ok-trail.ensures.some in
    subst (λ v. IsTracked v trail.last) (sym c.as_slice.ensures.value) (tracked_last s.config s.within s.exchange trail.origins.items trail.last to)

pub returns-clause-some : goal.returns-clause-some
returns-clause-some g c =
    let s = c.args.search.now in
    let trail = c.in-Some.trail in
    let track = c.in_ok-track.track in
    let to = some_is c.in_ok-trail.field-0 trail (λ it. IsTrailToLast s.config s.within s.exchange it.origins.items it.last) c.in-Some.is c.in_ok-trail.ensures.some in
    leads_to_last s.config s.within s.exchange trail.origins.items trail.last track.start track.steps.items to
    (subst (λ v. TracksBack v trail.last track.start (reverse track.steps.items)) c.as_slice.ensures.value c.in_ok-track.ensures)
