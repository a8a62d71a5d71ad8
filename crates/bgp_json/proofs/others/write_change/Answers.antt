use Rattle.std.proofs.Common.{codes, ◌++◌}
use Rattle.bgp_json_values.proofs.Members.{then_members}
use Rattle.bgp_json.proofs.Tokens.{whole}
use Rattle.bgp_json.specs.Others.{change_members}
use Rattle.bgp_json.specs.Place.{record_members}
use Rattle.bgp_json.proofs.others.write_change.Goals as goal

pub returns : goal.returns
returns g c =
    let place = record_members c.args.place in
    let said = change_members c.args.old c.args.new in
    whole (codes "change") (place ++ said) c.in_ok-begin.ensures (then_members place said c.in_ok-put_record_place.ensures c.in_ok-put_states.ensures) c.end_object.ensures
