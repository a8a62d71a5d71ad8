use Rattle.std.proofs.Common.{refl, sym}
use Rattle.bgp_wire.specs.Verdict.{type_code}
use Rattle.bgp_why.proofs.Announced.{announces_its_type, announces_nothing}
use Rattle.bgp_why.proofs.notes.announces.Goals as goal

pub returns-in-Whole : goal.returns-in-Whole
returns-in-Whole c =
    let (sound, count, is_type) = c.in-Whole.ensures.verdict in
    let type_is = rw (sym c.code.ensures) at is_type in
    rw c.code-in-Whole.ensures
    (announces_its_type c.args.config.now c.args.octets.now c.in-Some.header.now c.received_limit.result c.in-Some.ensures.some c.received_limit.ensures
    c.code.result (type_code c.args.kind) (c.in-Some.ensures.whole.0 refl) sound type_is)

pub returns-in-Faulty : goal.returns-in-Faulty
returns-in-Faulty c =
    announces_nothing c.args.config.now c.args.octets.now c.in-Some.header.now c.received_limit.result c.in-Some.ensures.some c.received_limit.ensures
    (type_code c.args.kind) c.in-Faulty.ensures.verdict.0
