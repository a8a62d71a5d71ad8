use Rattle.std.proofs.Common.{◌↔◌, IsTrue, subst}
use Rattle.bgp_wire.specs.declared.header.Limit.{Limit}
use Rattle.mrt.specs.Rules.{HasOtherLength}
use Rattle.mrt.proofs.judging.is_no_whole_message.Goals as goal

pub returns : goal.returns
returns c =
    subst (λ (limit : Limit). IsTrue c.has_other_length.result ↔ HasOtherLength limit c.args.content.now)
    c.with_extended.ensures c.has_other_length.ensures
