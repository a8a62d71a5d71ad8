use Rattle.std.proofs.Common.{[]}
use Rattle.bgp_speaker.proofs.choosing.plain_step.Goals as goal

pub unreachable-requires : goal.unreachable-requires
unreachable-requires c = c.picked_on-row.ensures.may c.args.t [] (c.in_default.ensures [])

pub returns : goal.returns
returns c config octets hears =
    let x = (c.in-Some.ensures octets).is in
    record {
      heard = c.args.heard;
      row = c.picked_on-row.result;
      wants = x.0;
      change = x.1;
      turn = x.2;
      hears = hears;
      picks = c.picked_on-row.ensures.picks octets;
      shown = x.3;
      is_step = x.4;
    }
