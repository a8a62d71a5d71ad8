use Rattle.std.proofs.Common.{refl}
use Rattle.bgp_recording.proofs.MadeOrders.{begins_ordered, ordered_on, ordered_where}
use Rattle.bgp_recording.proofs.Seconds.{begins_short, short_where, have_seconds}
use Rattle.bgp_recording.proofs.UnderWay.{begins_under_way, steps_where, made_where, leaves_less}
use Rattle.bgp_recording.proofs.ordering.made_entries.Goals as goal

pub loop-making-init : goal.loop-making-init
loop-making-init g c = record {
  told = λ told. begins_under_way c.args.within c.args.exchange _ c.in_ok-making.ensures told;
  short = begins_short c.args.exchange _ c.in_ok-making.ensures;
  ordered = begins_ordered c.args.within c.args.exchange _ c.in_ok-making.ensures;
}

pub loop-making-preserved : goal.loop-making-preserved
loop-making-preserved g c = record {
  told = λ told. steps_where c.args.within c.args.exchange _ _ _ c.if-branch.true c.in_ok-step.ensures.steps (c.loop-making.invariant.told told);
  short = short_where c.args.within _ _ _ c.if-branch.true c.in_ok-step.ensures.steps c.loop-making.invariant.short;
  ordered = ordered_on c.args.within c.args.exchange _ _ _ _ c.if-branch.true c.in_ok-step.ensures.steps c.new-foresight.ensures c.in_ok-step.ensures.next c.loop-making.invariant.ordered;
}

pub loop-making-smaller : goal.loop-making-smaller
loop-making-smaller g c = leaves_less c.args.within _ _ _ c.if-branch.true c.in_ok-step.ensures.steps

pub returns-clause-told : goal.returns-clause-told
returns-clause-told g c =
    λ told. made_where c.args.within c.args.exchange _ _ _ _ c.if-branch.false c.in_ok-step.ensures.steps c.making.view_is (c.loop-making.invariant.told told)

pub returns-clause-seconds : goal.returns-clause-seconds
returns-clause-seconds g c = have_seconds c.args.within _ _ _ _ _ c.if-branch.false c.in_ok-step.ensures.steps c.making.view_is refl c.loop-making.invariant.short

pub returns-clause-order : goal.returns-clause-order
returns-clause-order g c = ordered_where c.args.within c.args.exchange _ _ _ _ c.if-branch.false c.in_ok-step.ensures.steps c.making.view_is c.loop-making.invariant.ordered
