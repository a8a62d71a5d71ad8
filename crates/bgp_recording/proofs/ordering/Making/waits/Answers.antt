use Rattle.bgp_recording.proofs.MadeOrders.{next_is, waits_by}
use Rattle.bgp_recording.proofs.ordering.Making.waits.Goals as goal

pub returns : goal.returns
returns g c =
    let next = next_is (λ b. b.now) c.next_sent-next.result _ c.next_sent-next.ensures.some c.next_sent-next.ensures.none in
    waits_by c.args.foresight.now _ _ c.in-Some.message.now _ _ _ c.self.view_is c.in-Some.ensures.some next c.reason-why.ensures c.waits.ensures
