use Rattle.std.proofs.Common.{◌∷◌, [], codes}
use Rattle.json.specs.Json.{string}
use Rattle.bgp_tool.proofs.Tokens.{array}
use Rattle.bgp_json_values.specs.Objects.{array_of}
use Rattle.bgp_json_values.proofs.Members.{then_members}
use Rattle.bgp_json_values.proofs.Members.{member}
use Rattle.bgp_json_verdicts.specs.Objects.{family_texts, state_member}
use Rattle.bgp_json_verdicts.proofs.object.put_end.Goals as goal

pub returns : goal.returns
returns g c =
    let texts = family_texts c.args.disabled in
    then_members (state_member c.args.state ∷ []) ((codes "disabled", array_of string texts) ∷ []) c.in_ok-put_state.ensures
    (member (codes "disabled") (array_of string texts) c.in_ok-key.ensures (array string texts c.in_ok-begin_array.ensures c.in_ok-put_families.ensures c.end_array.ensures))
