use Rattle.bgp_json.proofs.Shallow.{change_shallow}
use Rattle.bgp_json.proofs.Lines.{starts_with_nothing, is_written}
use Rattle.bgp_json.specs.Others.{change_json}
use Rattle.bgp_json.proofs.others.put_json_change.Goals as goal

pub put_written-requires : goal.put_written-requires
put_written-requires g c = starts_with_nothing c.start-writer.ensures.before c.write_change-written.ensures

pub returns : goal.returns
returns g c = c.put_written.ensures (change_json c.args.place c.args.old c.args.new) (is_written c.start-writer.ensures.tokens c.write_change-written.ensures) (change_shallow c.args.place c.args.old c.args.new)
