use Rattle.bgp_json.proofs.Shallow.{recording_shallow}
use Rattle.bgp_json.proofs.Lines.{starts_with_nothing, is_written}
use Rattle.bgp_json.specs.Others.{recording_json}
use Rattle.bgp_json.proofs.others.put_json_recording_refusal.Goals as goal

pub put_written-requires : goal.put_written-requires
put_written-requires g c = starts_with_nothing c.start-writer.ensures.before c.write_recording-written.ensures

pub returns : goal.returns
returns g c = c.put_written.ensures (recording_json c.args.number c.args.name.now c.args.packet c.args.octet) (is_written c.start-writer.ensures.tokens c.write_recording-written.ensures) (recording_shallow c.args.number c.args.name.now c.args.packet c.args.octet)
