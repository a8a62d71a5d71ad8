use Rattle.std.proofs.Common.{◌∙◌, ap, sym, refl}
use Rattle.bgp_talk.specs.Account.{connection_after}
use Rattle.bgp_talk.specs.MemWire.{WireState, wire_state, after_connect, connects}
use Rattle.bgp_talk.proofs.MemCalls.{connect_failures}
use Rattle.bgp_talk.proofs.mem_wire.MemWireWire.connect.Goals as goal

pub returns-clause-told : goal.returns-clause-told
returns-clause-told g c =
    (after_connect (wire_state c.args.self.now), (c.dial.ensures.answer, refl), c.dial.ensures.state)

pub returns-clause-connection : goal.returns-clause-connection
returns-clause-connection g c =
    ap (λ (v : WireState). v.connection) c.dial.ensures.state ∙ ap connection_after (sym c.dial.ensures.answer)

pub returns-clause-failures : goal.returns-clause-failures
returns-clause-failures g c =
    ap (λ (v : WireState). v.failures) c.dial.ensures.state
    ∙ connect_failures (wire_state c.args.self.now).failures c.dial.result (connects (wire_state c.args.self.now)) c.dial.ensures.answer
