use Rattle.std.proofs.Common.{codes, ◌++◌}
use Rattle.bgp_json_values.proofs.Members.{then_members}
use Rattle.bgp_json.proofs.Tokens.{whole}
use Rattle.bgp_values.specs.ErrorData.{error_of}
use Rattle.bgp_json_values.specs.ErrorJson.{error_members}
use Rattle.bgp_json.specs.Place.{place_members}
use Rattle.bgp_json.proofs.message.write_notification.Goals as goal

pub returns : goal.returns
returns g c =
    let place = place_members c.args.place in
    let said = error_members (error_of c.args.message) in
    whole (codes "notification") (place ++ said) c.in_ok-begin.ensures (then_members place said c.in_ok-put_place.ensures c.in_ok-put_error.ensures) c.end_object.ensures
