use Rattle.std.proofs.Common.{codes}
use Rattle.bgp_json.proofs.Tokens.{array}
use Rattle.bgp_json_values.specs.Objects.{array_of, number_of}
use Rattle.bgp_json_values.proofs.Members.{member}
use Rattle.bgp_json_check.proofs.member.put_some_counts.Goals as goal

pub returns : goal.returns
returns g c =
    let counts = c.args.counts.now in
    member (codes "before") (array_of number_of counts) c.in_ok-key.ensures (array number_of counts c.in_ok-begin_array.ensures c.in_ok-put_counts.ensures c.end_array.ensures)
