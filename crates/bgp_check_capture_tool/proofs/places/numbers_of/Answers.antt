use Rattle.std.proofs.Common.{◌∙◌, ap, map}
use Rattle.std.proofs.lemmas.List.{take_all}
use Rattle.mrt_sessions.specs.Located.{located}
use Rattle.bgp_check_capture_tool.specs.Places.{numbers_of}
use Rattle.bgp_check_capture_tool.proofs.Numbers.{grown}
use Rattle.bgp_check_capture_tool.proofs.places.numbers_of.Goals as goal

pub loop-place-preserved : goal.loop-place-preserved
loop-place-preserved g c =
    grown (map located c.args.named.now) c.args.before c.args.places.now c.loop-place.place-index _ _ _ c.loop-place-test.true c.loop-place.invariant
    (rw c.micro_after.ensures at c.in_ok-push.ensures.items)

pub returns : goal.returns
returns g c = c.loop-place.invariant ∙ ap (numbers_of (map located c.args.named.now) c.args.before) (take_all c.loop-place.place-index c.args.places.now c.loop-place-test.false)
