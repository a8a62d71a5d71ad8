use Rattle.std.proofs.Common.{codes}
use Rattle.bgp_json.proofs.Tokens.{whole}
use Rattle.bgp_json.specs.Place.{place_members}
use Rattle.bgp_json.proofs.message.write_keepalive.Goals as goal

pub returns : goal.returns
returns g c = whole (codes "keepalive") (place_members c.args.place) c.in_ok-begin.ensures c.in_ok-put_place.ensures c.end_object.ensures
