use Rattle.bgp_check.proofs.Places.{with_last}
use Rattle.bgp_check.proofs.stretch.with_leaving.Goals as goal

pub returns-in_ok-push-in-Some : goal.returns-in_ok-push-in-Some
returns-in_ok-push-in-Some g c =
    with_last c.args.leaving c.args.records.items _ c.in-Some.leaving c.in-Some.is c.in_ok-push-in-Some.ensures.items
