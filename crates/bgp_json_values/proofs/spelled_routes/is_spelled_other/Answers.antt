use Rattle.std.proofs.Common.{◌∙◌, sym}
use Rattle.bgp_json_values.specs.RoutesJson.{spelled_numbers}
use Rattle.bgp_json_values.proofs.FrontsCompared.{by_rest, differ}
use Rattle.bgp_json_values.proofs.spelled_routes.is_spelled_other.Goals as goal

pub returns-in-None : goal.returns-in-None
returns-in-None c =
    differ (spelled_numbers c.args.afi c.args.safi) c.args.rest.now c.args.octets.now c.in-None.ensures

pub returns-in-Some : goal.returns-in-Some
returns-in-Some c =
    c.eq.ensures ∙ sym (by_rest (spelled_numbers c.args.afi c.args.safi) c.args.rest.now c.args.octets.now c.in-Some.others.now c.in-Some.ensures)
