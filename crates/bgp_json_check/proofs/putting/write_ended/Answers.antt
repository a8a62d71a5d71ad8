use Rattle.std.proofs.Common.{◌++◌, ◌∷◌, codes}
use Rattle.bgp_list.specs.Values.{how_value}
use Rattle.bgp_json.proofs.Tokens.{whole}
use Rattle.bgp_json_values.specs.Objects.{number_of}
use Rattle.bgp_json_values.proofs.Chains.{then}
use Rattle.bgp_json_values.proofs.Members.{then_members}
use Rattle.bgp_json_verdicts.specs.At.{place_members}
use Rattle.bgp_list.specs.EndedJson.{how_members}
use Rattle.bgp_list.specs.JsonMembers.{endpoint_members}
use Rattle.bgp_json_check.specs.Members.{flag_members}
use Rattle.bgp_json_check.proofs.putting.write_ended.Goals as goal

pub returns : goal.returns
returns g c =
    let place = place_members c.args.at.now.place in
    let dated = flag_members (codes "dated") c.args.at.now.is_dated in
    let ends = endpoint_members (codes "by") (codes "by_port") c.args.by.now in
    let how = how_members (how_value c.args.how) in
    whole (codes "ended") ((codes "judged", number_of c.args.judged) ∷ (place ++ (dated ++ (ends ++ how)))) c.in_ok-begin.ensures
    (then c.in_ok-put_number.ensures (then_members place (dated ++ (ends ++ how)) c.in_ok-put_place.ensures
    (then_members dated (ends ++ how) c.in_ok-put_flag.ensures (then_members ends how c.in_ok-put_end_members.ensures c.in_ok-put_how_members.ensures))))
    c.end_object.ensures
