use Rattle.std.proofs.Common.{◌≡◌, map, take}
use Rattle.mrt.specs.declared.record.Record.TheVariants.{Out}
use Rattle.bgp_recording.specs.declared.message.Message.{Message}
use Rattle.bgp_check_tool.proofs.orders.records_sent.Given as goal

-- the records of the messages so far
abbrev pub invariant-loop-message : goal.invariant-loop-message
invariant-loop-message g l = l.records.items ≡ map (λ (m : Message). Out m.second m.octets) (take l.message-index l.messages)
