use Rattle.std.proofs.Common.{◌∙◌, ap, map}
use Rattle.std.proofs.lemmas.List.{take_all}
use Rattle.mrt.specs.Reader.{shown_of}
use Rattle.mrt.specs.declared.record.Record.TheVariants.{In}
use Rattle.bgp_recording.specs.declared.message.Message.{Message}
use Rattle.bgp_check_tool.proofs.WayRecords.{all_received}
use Rattle.bgp_check_tool.proofs.orders.records_received.Goals as goal

pub returns : goal.returns
returns g c =
    ap (map shown_of) (c.loop-message.invariant ∙ ap (map (λ (m : Message). In m.second m.octets)) (take_all c.loop-message.message-index c.args.messages.now c.loop-message-test.false))
    ∙ all_received c.args.messages.now
