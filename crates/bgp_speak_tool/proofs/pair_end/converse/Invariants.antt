use Rattle.std.proofs.Common.{◌≡◌}
use Rattle.mrt.specs.FromWrite.{writer_state}
use Rattle.bgp_speak_tool.specs.Pairing.{Drove}
use Rattle.bgp_speak_tool.proofs.pair_end.converse.Given as goal

-- what both ends did so far
abbrev pub invariant-loop-round : goal.invariant-loop-round
invariant-loop-round g l = record {
  left : Drove g.W.Write.contents l.fn.left.config l.fn.left.core (writer_state l.fn.left.capture)
      l.left.core (writer_state l.left.capture);
  right : Drove g.W.Write.contents l.fn.right.config l.fn.right.core (writer_state l.fn.right.capture)
      l.right.core (writer_state l.right.capture);
  left_failures : (writer_state l.left.capture).failures ≡ (writer_state l.fn.left.capture).failures;
  right_failures : (writer_state l.right.capture).failures ≡ (writer_state l.fn.right.capture).failures;
  left_config : l.left.config ≡ l.fn.left.config;
  right_config : l.right.config ≡ l.fn.right.config;
}
