use Rattle.bgp_list.specs.Values.{how_value}
use Rattle.bgp_json.proofs.Lines.{starts_with_nothing, is_written}
use Rattle.bgp_json_check.specs.Objects.{ended_json}
use Rattle.bgp_json_check.proofs.Shallow.{ended_shallow}
use Rattle.bgp_json_check.proofs.putting.put_ended_object.Goals as goal

pub put_written-requires : goal.put_written-requires
put_written-requires g c = starts_with_nothing c.start-writer.ensures.before c.write_ended-written.ensures

pub returns : goal.returns
returns g c =
    let how = how_value c.args.how in
    c.put_written.ensures (ended_json c.args.judged c.args.at.now c.args.by.now how) (is_written c.start-writer.ensures.tokens c.write_ended-written.ensures)
    (ended_shallow c.args.judged c.args.at.now c.args.by.now how)
