use Rattle.bgp_json.proofs.Lines.{starts_with_nothing, is_written}
use Rattle.bgp_json_check.specs.Objects.{route_json}
use Rattle.bgp_json_check.proofs.Shallow.{route_shallow}
use Rattle.bgp_json_check.proofs.putting.put_route_object.Goals as goal

pub put_written-requires : goal.put_written-requires
put_written-requires g c = starts_with_nothing c.start-writer.ensures.before c.write_route-written.ensures

pub returns : goal.returns
returns g c =
    c.put_written.ensures (route_json c.args.kind.now c.args.judged c.args.end (c.args.destination, c.args.path.now)) (is_written c.start-writer.ensures.tokens c.write_route-written.ensures)
    (route_shallow c.args.kind.now c.args.judged c.args.end c.args.destination c.args.path.now)
