use Rattle.std.proofs.Common.{◌∙◌}
use Rattle.bgp_import.proofs.gathering.gather.Goals as goal

pub returns-in-Ok-clause-gathers : goal.returns-in-Ok-clause-gathers
returns-in-Ok-clause-gathers g c =
    let t = c.in-Ok.ensures.takes in record {
      octets = t.octets;
      packets = t.packets;
      segments = t.segments;
      cut = _;
      all = t.all;
      holds = record { connections = t.holds; last = c.number.ensures ∙ t.many };
      is_cut = c.is_cut_short.ensures;
    }
