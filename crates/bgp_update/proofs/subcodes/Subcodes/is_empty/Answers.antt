use Rattle.bgp_update.proofs.Marks.{emptiness}
use Rattle.bgp_update.proofs.subcodes.Subcodes.is_empty.Goals as goal

pub returns : goal.returns
returns c = emptiness c.args.self c.least.result c.is_none.result c.is_none.ensures c.least.ensures.some c.least.ensures.none
