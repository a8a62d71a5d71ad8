use Rattle.bgp_update.proofs.OneSplit.{no_second}
use Rattle.bgp_update.proofs.fields.split_update.Goals as goal

pub returns-in_default-split_counted-2-clause-none : goal.returns-in_default-split_counted-2-clause-none
returns-in_default-split_counted-2-clause-none c =
    no_second c.args.octets.now c.in-Some.body.now _ c.in-Some-split_counted.rest.now c.in-Some.ensures.body c.in-Some-split_counted.ensures.some c.in_default-split_counted-2.ensures.none
