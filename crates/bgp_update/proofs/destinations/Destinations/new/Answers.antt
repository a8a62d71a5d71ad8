use Rattle.bgp_update.specs.Destinations.{is_identified}
use Rattle.bgp_update.proofs.DestinationLists.{is_list, is_none}
use Rattle.bgp_update.proofs.destinations.Destinations.new.Goals as goal

pub returns-in-Some-clause-some : goal.returns-in-Some-clause-some
returns-in-Some-clause-some c =
    is_list (is_identified c.args.form c.args.family) c.args.family c.args.field.now _ c.count.result _ c.new-rest.ensures c.count.ensures c.in-Some.is

pub returns-in-None-clause-none : goal.returns-in-None-clause-none
returns-in-None-clause-none c =
    is_none (is_identified c.args.form c.args.family) c.args.family c.args.field.now _ c.count.result c.new-rest.ensures c.count.ensures c.in-None.is
