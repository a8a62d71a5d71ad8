use Rattle.std.proofs.Common.{refl}
use Rattle.bgp_recording.proofs.Lists.{first_is}
use Rattle.bgp_recording.proofs.MadeOrders.{sent_turn}
use Rattle.bgp_recording.specs.Leads.{pending_of}
use Rattle.bgp_recording.proofs.pending.Pending.pop_own.Goals as goal

pub returns-in-Some : goal.returns-in-Some
returns-in-Some c =
    let first = first_is c.args.self.now.sent.now c.args.self.now.place.sent c.in-Some.message.now c.in-Some.ensures.some in
    record {
      leads = record { received = refl; sent = first; end = refl; in_time = c.requires };
      turn = sent_turn _ (pending_of c.args.self.now).received _ _ _ first;
      place = refl;
    }
