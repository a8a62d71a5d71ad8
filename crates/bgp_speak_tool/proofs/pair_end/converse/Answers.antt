use Rattle.std.proofs.Common.{◌∙◌}
use Rattle.bgp_speak_tool.proofs.Driving.{drove_on}
use Rattle.bgp_speak_tool.proofs.pair_end.converse.Goals as goal

pub loop-round-preserved : goal.loop-round-preserved
loop-round-preserved g c = record {
  left = drove_on g.W.Write.contents c.args.left.now.config _ _ _ _ _ _ _ c.loop-round.invariant.left_config
      c.loop-round.invariant.left c.in_ok-take_round.ensures.left;
  right = drove_on g.W.Write.contents c.args.right.now.config _ _ _ _ _ _ _ c.loop-round.invariant.right_config
      c.loop-round.invariant.right c.in_ok-take_round.ensures.right;
  left_failures = c.in_ok-take_round.ensures.left_failures ∙ c.loop-round.invariant.left_failures;
  right_failures = c.in_ok-take_round.ensures.right_failures ∙ c.loop-round.invariant.right_failures;
  left_config = c.in_ok-take_round.ensures.left_config ∙ c.loop-round.invariant.left_config;
  right_config = c.in_ok-take_round.ensures.right_config ∙ c.loop-round.invariant.right_config;
}

pub returns-then-are_settled-clause-left : goal.returns-then-are_settled-clause-left
returns-then-are_settled-clause-left g c =
    drove_on g.W.Write.contents c.args.left.now.config _ _ _ _ _ _ _ c.loop-round.invariant.left_config
    c.loop-round.invariant.left c.in_ok-take_round.ensures.left

pub returns-then-are_settled-clause-right : goal.returns-then-are_settled-clause-right
returns-then-are_settled-clause-right g c =
    drove_on g.W.Write.contents c.args.right.now.config _ _ _ _ _ _ _ c.loop-round.invariant.right_config
    c.loop-round.invariant.right c.in_ok-take_round.ensures.right
