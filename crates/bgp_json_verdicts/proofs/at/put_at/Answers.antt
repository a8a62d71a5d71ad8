use Rattle.bgp_json_values.proofs.Members.{then_members}
use Rattle.bgp_json_verdicts.specs.At.{dated_members, place_members}
use Rattle.bgp_json_verdicts.proofs.at.put_at.Goals as goal

pub returns : goal.returns
returns g c =
    then_members (place_members c.args.at.now.place) (dated_members c.args.at.now.is_dated) c.in_ok-put_place.ensures c.put_dated.ensures
