use Rattle.std.proofs.Common.{◌∙◌, sym}
use Rattle.bgp_speaker.proofs.Answering.{holds_right}
use Rattle.bgp_speaker.proofs.engine.Core.finish.Goals as goal

pub forget_unconnected-requires : goal.forget_unconnected-requires
forget_unconnected-requires g c on = (c.self.invariant.0 ∙ sym c.received_limit-limit.ensures, c.self.invariant.1)

pub invariant_of-self : goal.invariant_of-self
invariant_of-self g c =
    let holds = holds_right _ c.args.draft.head c.forget_unconnected.new.frames c.self.inside.frames.octets c.forget_unconnected.ensures in
    (holds.0 ∙ c.received_limit-limit.ensures, holds.1, holds.2, c.self.invariant.3, c.requires)
