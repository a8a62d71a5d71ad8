use Rattle.std.proofs.Common.{codes}
use Rattle.json.specs.Json.{string}
use Rattle.bgp_json.proofs.Tokens.{array}
use Rattle.bgp_json_values.specs.Objects.{array_of}
use Rattle.bgp_json_values.proofs.Members.{member}
use Rattle.bgp_json_verdicts.specs.Objects.{family_texts}
use Rattle.bgp_json_check.proofs.member.put_disabled.Goals as goal

pub returns : goal.returns
returns g c =
    let texts = family_texts c.args.families in
    member (codes "disabled") (array_of string texts) c.in_ok-key.ensures (array string texts c.in_ok-begin_array.ensures c.in_ok-put_families.ensures c.end_array.ensures)
