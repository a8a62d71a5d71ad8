use Rattle.std.proofs.Common.{codes}
use Rattle.bgp_update.specs.Parts.{parts_of}
use Rattle.bgp_json_values.proofs.Chains.{adding, one, then}
use Rattle.bgp_json_values.proofs.Members.{member}
use Rattle.bgp_json_values.specs.RoutesJson.{destinations_json}
use Rattle.bgp_json.proofs.update.put_checked.Goals as goal

pub returns-clause-tokens : goal.returns-clause-tokens
returns-clause-tokens g c =
    let first = c.in_ok-is_first.ensures in
    let second = c.in_ok-is_second.ensures in
    let nlri = member (codes "nlri") (destinations_json (parts_of c.args.parts).nlri) c.in_ok-key-3.ensures (adding {b = c.put_spelled-2.new.writer} second.tokens second.before) in
    (then (one c.in_ok-key.ensures) (then (adding first.tokens first.before) (then (one c.in_ok-key-2.ensures) (then c.in_ok-put_attributes.ensures nlri)))).ok
