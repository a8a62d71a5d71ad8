use Rattle.std.proofs.Common.{length, rules, tests}
use Rattle.mrt.specs.MemSource.{source_state}
use Rattle.mrt.specs.MemGives.{gives_nothing}
use Rattle.mrt.proofs.GaveFront.{gave_front}
use Rattle.mrt.proofs.mem_source.MemSourceSource.read.Goals as goal

pub returns-then-is_empty-clause-ok : goal.returns-then-is_empty-clause-ok
returns-then-is_empty-clause-ok g c = gives_nothing c.args.self.now

pub returns-in-None-clause-ok : goal.returns-in-None-clause-ok
returns-in-None-clause-ok g c =
    gave_front (source_state c.args.self.now) (source_state c.begin_call.new.self) (source_state c.give.new.self) c.give.new.buffer c.give.result c.get.result
    (length c.args.buffer.now) c.get.ensures.nonzero (search (tests, rules)) c.begin_call.ensures.state c.give.ensures.count c.give.ensures.front c.give.ensures.state

pub returns-in-Some-Short-clause-ok : goal.returns-in-Some-Short-clause-ok
returns-in-Some-Short-clause-ok g c =
    gave_front (source_state c.args.self.now) (source_state c.begin_call.new.self) (source_state c.give-in-Some-Short.new.self) c.give-in-Some-Short.new.buffer
    c.give-in-Some-Short.result _ (length c.args.buffer.now) (search (tests, rules)) (search (tests, rules)) c.begin_call.ensures.state
    c.give-in-Some-Short.ensures.count c.give-in-Some-Short.ensures.front c.give-in-Some-Short.ensures.state
