use Rattle.std.proofs.Common.{◌∙◌}
use Rattle.bgp_speak_tool.proofs.Driving.{drove_on}
use Rattle.bgp_speak_tool.proofs.pair_end.End.begin.Goals as goal

pub returns-clause-ok : goal.returns-clause-ok
returns-clause-ok g c =
    drove_on g.W.Write.contents c.args.self.now.config _ _ _ _ _ _ _ (c.in_ok-started.ensures.config ∙ c.in_ok-announced.ensures.config)
    (drove_on g.W.Write.contents c.args.self.now.config _ _ _ _ _ _ _ c.in_ok-announced.ensures.config c.in_ok-announced.ensures.ok c.in_ok-started.ensures.ok)
    c.in_ok-connected.ensures.ok
