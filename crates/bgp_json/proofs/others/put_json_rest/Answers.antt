use Rattle.bgp_json.proofs.Shallow.{rest_shallow}
use Rattle.bgp_json.proofs.Lines.{starts_with_nothing, is_written}
use Rattle.bgp_json.specs.Others.{rest_json}
use Rattle.bgp_json.proofs.others.put_json_rest.Goals as goal

pub put_written-requires : goal.put_written-requires
put_written-requires g c = starts_with_nothing c.start-writer.ensures.before c.write_rest-written.ensures

pub returns : goal.returns
returns g c = c.put_written.ensures (rest_json c.args.offset c.args.octets.now) (is_written c.start-writer.ensures.tokens c.write_rest-written.ensures) (rest_shallow c.args.offset c.args.octets.now)
