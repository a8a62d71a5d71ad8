use Rattle.std.proofs.Common.{refl, subst}
use Rattle.bgp_wire.specs.declared.header.Limit.{Limit}
use Rattle.bgp_wire.specs.Header.{IsSound}
use Rattle.bgp_wire.specs.Verdict.{AreEachFault}
use Rattle.bgp_machine.specs.Heard.{received_limit}
use Rattle.bgp_machine.proofs.Hearings.{announces, faulty}
use Rattle.bgp_machine.proofs.hearing.hear.Goals as goal

pub hear_type-requires : goal.hear_type-requires
hear_type-requires c =
    announces c.args.config.now c.args.octets.now c.in-Some.header.now _ c.in-Some.ensures.some (c.in-Some.ensures.whole.0 refl)
    (subst (λ (limit : Limit). IsSound limit c.in-Some.header.now) c.received_limit.ensures c.in-Whole.ensures.verdict.0) c.in-Whole.ensures.verdict.2

pub returns-in-Faulty : goal.returns-in-Faulty
returns-in-Faulty c =
    faulty (received_limit c.args.config.now) c.args.octets.now c.in-Some.header.now _ c.in-Some.ensures.some (c.in-Some.ensures.whole.0 refl)
    (subst (λ (limit : Limit). ¬ IsSound limit c.in-Some.header.now) c.received_limit.ensures c.in-Faulty.ensures.verdict.0)
    (subst (λ (limit : Limit). AreEachFault limit c.in-Some.header.now c.in-Faulty.faults) c.received_limit.ensures c.in-Faulty.ensures.each)
