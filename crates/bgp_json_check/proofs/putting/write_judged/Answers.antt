use Rattle.std.proofs.Common.{◌∷◌, codes}
use Rattle.bgp_json.proofs.Tokens.{whole}
use Rattle.bgp_json_values.specs.Objects.{number_of}
use Rattle.bgp_json_values.proofs.Chains.{then}
use Rattle.bgp_json_check.specs.Members.{all_members}
use Rattle.bgp_json_check.proofs.putting.write_judged.Goals as goal

pub returns : goal.returns
returns g c =
    whole c.args.kind.now ((codes "judged", number_of c.args.judged) ∷ all_members c.args.members.now) c.in_ok-begin.ensures
    (then c.in_ok-put_number.ensures c.in_ok-put_members.ensures) c.end_object.ensures
