use Rattle.std.proofs.Common.{refl}
use Rattle.bgp_recording.proofs.Lists.{first_is}
use Rattle.bgp_recording.proofs.MadeOrders.{taken_turn}
use Rattle.bgp_recording.proofs.Orders.{take_before}
use Rattle.bgp_recording.specs.Leads.{pending_of}
use Rattle.bgp_recording.proofs.pending.Pending.pop_received.Goals as goal

pub returns : goal.returns
returns c =
    let first = first_is c.args.self.now.received.now c.args.self.now.place.received c.in_ok-message.field-0.now c.in_ok-message.ensures.some in
    record {
      leads = record {
        received = first;
        sent = refl;
        end = refl;
        before = take_before (pending_of c.args.self.now).received _ c.in_ok-message.field-0.now c.in_ok-message.ensures.some c.requires;
      };
      turn = taken_turn _ _ _ _ _ first;
      place = refl;
    }
