use Rattle.std.proofs.Common.{◌∙◌, arith}
use Rattle.bgp_reason.proofs.Halving.{asked_so, never, not_before, not_below}
use Rattle.bgp_reason.proofs.asking.least_expiry.Goals as goal

pub returns-then-not-branch : goal.returns-then-not-branch
returns-then-not-branch g c = λ config records stands second small may.
    let both = asked_so config records 4294967295 c.as_slice.result.now c.in_ok-may_send.field-0 (c.as_slice.ensures.value ∙ c.in_ok-octets.ensures) (c.in_ok-may_send.ensures config records stands) in
    never c.in_ok-may_send.field-0 c.if-not-branch.true (both.1 (c.hold_timer_expires_from_then_on.ensures config records second 4294967295 (omega arith) may))

pub loop-low-preserved-then-branch : goal.loop-low-preserved-then-branch
loop-low-preserved-then-branch g c = record {
  octets = c.loop-low.invariant.octets;
  order = omega arith;
  bounds = λ config records stands.
      let both = asked_so config records _ c.as_slice-in-loop-low.result.now c.in_ok-may_send-2.field-0 (c.as_slice-in-loop-low.ensures.value ∙ c.in_ok-octets.ensures) (c.in_ok-may_send-2.ensures config records stands) in
      (both.0 c.if-branch.true, (c.loop-low.invariant.bounds config records stands).1);
}

pub loop-low-preserved : goal.loop-low-preserved
loop-low-preserved g c = record {
  octets = c.loop-low.invariant.octets;
  order = let t = c.loop-low-test.true in omega arith;
  bounds = λ config records stands.
      let both = asked_so config records _ c.as_slice-in-loop-low.result.now c.in_ok-may_send-2.field-0 (c.as_slice-in-loop-low.ensures.value ∙ c.in_ok-octets.ensures) (c.in_ok-may_send-2.ensures config records stands) in (
        (c.loop-low.invariant.bounds config records stands).0,
        not_below c.hold_timer_expires_from_then_on.ensures config records _ (λ may. never c.in_ok-may_send-2.field-0 c.if-branch.false (both.1 may)),
      );
}

pub returns : goal.returns
returns g c = λ config records stands.
    let bounds = c.loop-low.invariant.bounds config records stands in
    (bounds.0, not_before config records c.loop-low.low c.loop-low.high c.loop-low-test.false bounds.1)
