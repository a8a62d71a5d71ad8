use Rattle.bgp_recording_tool.proofs.ByNoOrder.{by_no_order}
use Rattle.bgp_recording_tool.proofs.headline.a_no_at_a_packet_is_by_no_order.Goals as goal

pub returns : goal.returns
returns c = by_no_order c.no_order_explains_a_no.ensures
