use Rattle.std.proofs.Common.{ap}
use Rattle.bgp_talk.specs.MemWire.{WireState, wire_state}
use Rattle.bgp_talk.proofs.MemCalls.{wrote_ok, wrote_err}
use Rattle.bgp_talk.proofs.mem_wire.MemWireWire.write.Goals as goal

pub returns-clause-ok : goal.returns-clause-ok
returns-clause-ok g c =
    wrote_ok (wire_state c.args.self.now) (wire_state c.keep.new.self) c.args.octets.now c.keep.result c.keep.ensures.answer c.keep.ensures.state

pub returns-clause-err : goal.returns-clause-err
returns-clause-err g c =
    wrote_err (wire_state c.args.self.now) (wire_state c.keep.new.self) c.args.octets.now c.keep.result c.keep.ensures.answer c.keep.ensures.state

pub returns-clause-connection : goal.returns-clause-connection
returns-clause-connection g c = ap (λ (v : WireState). v.connection) c.keep.ensures.state

pub returns-clause-failures : goal.returns-clause-failures
returns-clause-failures g c = ap (λ (v : WireState). v.failures) c.keep.ensures.state
