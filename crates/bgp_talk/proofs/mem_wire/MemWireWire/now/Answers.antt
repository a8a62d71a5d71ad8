use Rattle.std.proofs.Common.{ap, refl}
use Rattle.bgp_talk.specs.MemWire.{WireState, wire_state, after_now}
use Rattle.bgp_talk.proofs.mem_wire.MemWireWire.now.Goals as goal

pub returns-clause-told : goal.returns-clause-told
returns-clause-told g c =
    (after_now (wire_state c.args.self.now), (c.tell_second.ensures.answer, refl), c.tell_second.ensures.state)

pub returns-clause-connection : goal.returns-clause-connection
returns-clause-connection g c = ap (λ (v : WireState). v.connection) c.tell_second.ensures.state

pub returns-clause-failures : goal.returns-clause-failures
returns-clause-failures g c = ap (λ (v : WireState). v.failures) c.tell_second.ensures.state
