use Rattle.std.proofs.Common.{codes}
use Rattle.bgp_tool.proofs.Tokens.{whole}
use Rattle.bgp_json_verdicts.specs.Objects.{opening_members}
use Rattle.bgp_json_verdicts.proofs.object.write_opening.Goals as goal

pub returns : goal.returns
returns g c = whole (codes "connection") (opening_members c.args.session.now c.args.opening) c.in_ok-begin.ensures c.in_ok-put_opening.ensures c.end_object.ensures
