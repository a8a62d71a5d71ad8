use Rattle.std.proofs.Common.{refl}
use Rattle.bgp_check_text.specs.Shown.{CanBeTold}
use Rattle.bgp_check_text.proofs.EachShown.{none_left, one_more, one_not}
use Rattle.bgp_check_text.proofs.shown.can_be_told.Goals as goal

pub loop-shown-preserved : goal.loop-shown-preserved
loop-shown-preserved c =
    one_more (CanBeTold c.args.session.now c.args.sent) c.args.records.now c.loop-shown.shown-index _ c.loop-shown-test.true
    (rw c.session_for.ensures at (c.is_allowed.ensures.0 (cc))) c.loop-shown.invariant

pub returns-then-not-is_allowed : goal.returns-then-not-is_allowed
returns-then-not-is_allowed c = (
  λ is. absurd (cc),
  λ all. absurd (one_not (CanBeTold c.args.session.now c.args.sent) c.args.records.now c.loop-shown.shown-index _ c.loop-shown-test.true
      (λ can. let is = c.is_allowed.ensures.1 (rw c.session_for.ensures can) in absurd (cc)) c.loop-shown.invariant all),
)

pub returns : goal.returns
returns c = (
  λ is. none_left (CanBeTold c.args.session.now c.args.sent) c.args.records.now c.loop-shown.shown-index c.loop-shown-test.false c.loop-shown.invariant,
  λ all. refl,
)
