use Rattle.std.proofs.Common.{map, sym, subst}
use Rattle.bgp_machine.specs.Run.{End, IsComplete}
use Rattle.bgp_speaker.specs.declared.speaker.Speaker.{Speaker}
use Rattle.bgp_speaker.specs.Core.{fresh_core, without_offers}
use Rattle.bgp_speaker.specs.Shown.{shown_value}
use Rattle.bgp_speaker.specs.Driven.{input_at}
use Rattle.bgp_speaker.proofs.ConnectionHeard.{each_heard_on}
use Rattle.bgp_speaker.proofs.DrivesARun.{drives_complete}
use Rattle.bgp_speaker.proofs.EachShown.{seconds_in_order}
use Rattle.bgp_speaker.proofs.StillToCome.{starts, one_more, driven}
use Rattle.bgp_speaker.proofs.driving.drive.Goals as goal

pub loop-second-init : goal.loop-second-init
loop-second-init g c =
    starts _ c.new-core.result _ c.new-records.result.items c.new-sent.result.items c.new-core.ensures c.new-records.ensures.items c.new-sent.ensures.items

pub loop-second-preserved : goal.loop-second-preserved
loop-second-preserved g c =
    one_more _ c.loop-second.core c.step.new.self c.args.inputs.now c.loop-second.second-index c.loop-second-item.result _ c.in_ok-output.output
    c.loop-second.records.items c.append-in-loop-second.new.self.items c.loop-second.sent.items c.append.new.self.items
    c.loop-second.invariant c.loop-second-test.true c.loop-second-item.is c.again.ensures c.in_ok-output.ensures.ok
    c.in_ok-append.ensures.items c.in_ok-append-2.ensures.items

pub returns : goal.returns
returns g c =
    let speaker : Speaker = record { config = without_offers c.args.config.now; next_hop4 = c.args.next_hop4; next_hop6 = c.args.next_hop6 } in
    let drives = driven (fresh_core speaker) c.loop-second.core c.args.inputs.now c.loop-second.second-index c.loop-second.records.items c.loop-second.sent.items
    c.loop-second.invariant c.loop-second-test.false in
    let inputs = map input_at c.args.inputs.now in
    let records = map shown_value c.loop-second.records.items in
    let fsm = c.fsm.ensures in
    let rib = c.into_rib.ensures in
    record {
      steps = (c.loop-second.core, drives, fsm, rib);
      run = subst (λ (v : End). IsComplete (without_offers c.args.config.now) records v) (λ i. record { fsm = sym fsm i; routes = sym rib i })
          (drives_complete speaker c.loop-second.core inputs records drives);
      sent = c.loop-second.invariant.sent_are;
      heard = (c.loop-second.core, each_heard_on speaker c.loop-second.core inputs records drives);
      seconds = seconds_in_order (fresh_core speaker) c.loop-second.core inputs records drives;
    }
