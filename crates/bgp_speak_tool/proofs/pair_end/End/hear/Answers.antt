use Rattle.std.proofs.Common.{◌∙◌, refl, rules}
use Rattle.mrt.specs.FromWrite.{writer_state}
use Rattle.bgp_speak_tool.proofs.Driving.{drove_none, drove_next}
use Rattle.bgp_speak_tool.proofs.pair_end.End.hear.Goals as goal

pub loop-self-init : goal.loop-self-init
loop-self-init g c = record {
  drove = drove_none g.W.Write.contents c.args.self.now.config c.args.self.now.core (writer_state c.args.self.now.capture);
  failures = refl;
  config = refl;
  room = search rules;
}

pub loop-self-preserved : goal.loop-self-preserved
loop-self-preserved g c = record {
  drove = drove_next g.W.Write.contents c.args.self.now.config _ _ _ _ _ _ _ _ _
      (c.in_ok-count.ensures.config ∙ c.loop-self.invariant.config) c.in_ok-count.ensures.core c.in_ok-count.ensures.capture
      c.loop-self.invariant.drove c.in_ok-octets.ensures.ok;
  failures = search rules;
  config = c.in_ok-octets.ensures.config ∙ (c.in_ok-count.ensures.config ∙ c.loop-self.invariant.config);
  room = search rules;
}
