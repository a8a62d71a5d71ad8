use Rattle.std.proofs.Common.{◌∙◌, ap, refl, length}
use Rattle.bgp_talk.specs.MemWire.{WireState, wire_state, after_read, after_read_place, failures_told}
use Rattle.bgp_talk.specs.Account.{ReadTold}
use Rattle.bgp_talk.proofs.MemCalls.{failures_are}
use Rattle.bgp_talk.proofs.mem_wire.MemWireWire.read.Goals as goal

pub returns-clause-told : goal.returns-clause-told
returns-clause-told g c =
    let s = wire_state c.args.self.now in
    let room = length c.answer_read.new.buffer in (
      after_read s room,
      (c.answer_read.ensures.answer, refl),
      c.answer_read.ensures.state
          ∙ ap (λ n. record (after_read_place s) { failures = n }) (failures_are s.failures c.answer_read.result c.answer_read.new.buffer
          ∙ ap (λ (t : ReadTold). failures_told s.failures t) c.answer_read.ensures.answer),
    )

pub returns-clause-connection : goal.returns-clause-connection
returns-clause-connection g c = ap (λ (v : WireState). v.connection) c.answer_read.ensures.state

pub returns-clause-failures : goal.returns-clause-failures
returns-clause-failures g c = ap (λ (v : WireState). v.failures) c.answer_read.ensures.state
