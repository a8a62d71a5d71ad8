use Rattle.bgp_json.proofs.Shallow.{capture_shallow}
use Rattle.bgp_json.proofs.Lines.{starts_with_nothing, is_written}
use Rattle.bgp_json.specs.Others.{capture_json}
use Rattle.bgp_json.proofs.others.put_json_capture_refusal.Goals as goal

pub put_written-requires : goal.put_written-requires
put_written-requires g c = starts_with_nothing c.start-writer.ensures.before c.write_capture-written.ensures

pub returns : goal.returns
returns g c = c.put_written.ensures (capture_json c.args.fault) (is_written c.start-writer.ensures.tokens c.write_capture-written.ensures) (capture_shallow c.args.fault)
