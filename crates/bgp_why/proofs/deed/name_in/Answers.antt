use Rattle.std.proofs.Common.{subst}
use Rattle.bgp_wire.specs.declared.header.Limit.{Limit}
use Rattle.mrt.specs.Rules.{HasOtherLength}
use Rattle.bgp_why.specs.Message.{IsNamed}
use Rattle.bgp_why.proofs.Named.{frame_or_faulty}
use Rattle.bgp_why.proofs.deed.name_in.Goals as goal

pub returns : goal.returns
returns c =
    subst (λ (limit : Limit). IsNamed c.args.form limit c.args.octets.now c.of.result) c.with_extended.ensures
    (c.of.ensures (frame_or_faulty c.with_extended.result c.args.octets.now c.requires.long (λ other. c.requires.whole (subst (λ (limit : Limit). HasOtherLength limit c.args.octets.now) c.with_extended.ensures other))))
