use Rattle.std.proofs.Common.{◌≡◌, length}
use Rattle.mrt.specs.FromWrite.{writer_state}
use Rattle.bgp_speak_tool.specs.Pairing.{Drove}
use Rattle.bgp_speak_tool.proofs.pair_end.End.hear.Given as goal

-- what was read so far was handed in
abbrev pub invariant-loop-self : goal.invariant-loop-self
invariant-loop-self g l = record {
  drove : Drove g.W.Write.contents l.fn.self.config l.fn.self.core (writer_state l.fn.self.capture)
      l.self.core (writer_state l.self.capture);
  failures : (writer_state l.self.capture).failures ≡ (writer_state l.fn.self.capture).failures;
  config : l.self.config ≡ l.fn.self.config;
  room : length l.buffer ≡ 4096;
}

abbrev pub decreases-loop-self : goal.decreases-loop-self
decreases-loop-self g l = l.self.unread
