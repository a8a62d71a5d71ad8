use Rattle.bgp_prefix.proofs.ReadExits.{cut_at_slash}
use Rattle.bgp_prefix.proofs.text.around_slash.Goals as goal

pub returns : goal.returns
returns c = cut_at_slash c.args.text.now c.split_once.result c.split_once.ensures.cases
