use Rattle.bgp_json.proofs.Lines.{starts_with_nothing, is_written}
use Rattle.bgp_json.specs.Object.{typed}
use Rattle.bgp_json_check.specs.Members.{all_members}
use Rattle.bgp_json_check.proofs.Shallow.{plain_shallow}
use Rattle.bgp_json_check.proofs.putting.put_plain.Goals as goal

pub put_written-requires : goal.put_written-requires
put_written-requires g c = starts_with_nothing c.start-writer.ensures.before c.write_plain-written.ensures

pub returns : goal.returns
returns g c =
    c.put_written.ensures (typed c.args.kind.now (all_members c.args.members.now)) (is_written c.start-writer.ensures.tokens c.write_plain-written.ensures)
    (plain_shallow c.args.kind.now c.args.members.now)
