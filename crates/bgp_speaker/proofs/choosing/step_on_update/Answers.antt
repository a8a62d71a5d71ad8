use Rattle.bgp_machine.specs.declared.hearing.Heard.TheVariants.{Update}
use Rattle.bgp_speaker.proofs.choosing.step_on_update.Goals as goal

pub unreachable-requires : goal.unreachable-requires
unreachable-requires g c =
    let are = c.in_ok-outcomes.ensures.exact in
    c.picked_on_update-row.ensures.may c.args.own c.args.timer c.args.t c.args.octets.now are c.some_outcome.ensures.some
    (c.in_default.ensures c.args.octets.now are)

pub returns : goal.returns
returns g c config hears =
    let are = c.in_ok-outcomes.ensures.exact in
    let x = (c.in-Some.ensures c.args.octets.now are).is in
    record {
      heard = Update;
      row = c.picked_on_update-row.result;
      wants = x.0;
      change = x.1;
      turn = x.2;
      hears = hears;
      picks = c.picked_on_update-row.ensures.picks c.args.own c.args.timer c.args.octets.now are;
      shown = x.3;
      is_step = x.4;
    }
