use Rattle.std.proofs.Common.{ap}
use Rattle.bgp_wire.specs.Held.{Held}
use Rattle.bgp_speaker.specs.Core.{without_offers}
use Rattle.bgp_speaker.proofs.OneConfig.{one_config}
use Rattle.bgp_speaker.proofs.engine.Core.new.Goals as goal

pub returns : goal.returns
returns g c =
    let config = one_config c.without_offers.result (without_offers c.args.config.now) c.without_offers.ensures in
    let held = ap (λ (v : Held). v.octets) c.new-2.ensures in
    λ i. record {
      speaker = record { config = config i; next_hop4 = c.args.next_hop4; next_hop6 = c.args.next_hop6 };
      moment = record { session = c.fresh.ensures i; sent_at = 0 };
      kept = c.new.ensures.empty i;
      second = 0;
      held = held i;
    }
