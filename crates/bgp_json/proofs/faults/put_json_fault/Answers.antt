use Rattle.bgp_json.proofs.Shallow.{header_shallow}
use Rattle.bgp_json.proofs.Lines.{starts_with_nothing, is_written}
use Rattle.bgp_json.specs.Others.{header_json}
use Rattle.bgp_json.proofs.faults.put_json_fault.Goals as goal

pub put_written-requires : goal.put_written-requires
put_written-requires g c = starts_with_nothing c.start-writer.ensures.before c.write_fault-written.ensures

pub returns : goal.returns
returns g c = c.put_written.ensures (header_json c.args.place c.args.faults c.args.header.now c.args.octets.now) (is_written c.start-writer.ensures.tokens c.write_fault-written.ensures) (header_shallow c.args.place c.args.faults c.args.header.now c.args.octets.now)
