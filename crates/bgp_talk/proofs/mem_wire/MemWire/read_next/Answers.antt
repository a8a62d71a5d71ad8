use Rattle.std.proofs.Common.{rules, length, IsTrue}
use Rattle.bgp_talk.specs.MemWire.{wire_state}
use Rattle.bgp_talk.proofs.MemCalls.{read_broke, broke_place}
use Rattle.bgp_talk.proofs.mem_wire.MemWire.read_next.Goals as goal

pub returns-then-begin_read-clause-answer : goal.returns-then-begin_read-clause-answer
returns-then-begin_read-clause-answer g c =
    let fails : IsTrue c.begin_read.result = search rules in
    read_broke (wire_state c.args.self.now) (length c.args.buffer.now) c.begin_read.result c.begin_read.ensures.fails fails

pub returns-then-begin_read-clause-state : goal.returns-then-begin_read-clause-state
returns-then-begin_read-clause-state g c =
    let fails : IsTrue c.begin_read.result = search rules in
    broke_place (wire_state c.args.self.now) (wire_state c.begin_read.new.self) c.begin_read.result c.begin_read.ensures.state c.begin_read.ensures.fails fails
