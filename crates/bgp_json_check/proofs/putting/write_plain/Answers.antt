use Rattle.bgp_json.proofs.Tokens.{whole}
use Rattle.bgp_json_check.specs.Members.{all_members}
use Rattle.bgp_json_check.proofs.putting.write_plain.Goals as goal

pub returns : goal.returns
returns g c = whole c.args.kind.now (all_members c.args.members.now) c.in_ok-begin.ensures c.in_ok-put_members.ensures c.end_object.ensures
