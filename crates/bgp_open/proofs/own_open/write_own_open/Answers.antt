use Rattle.std.proofs.Common.{rules}
use Rattle.bgp_open.proofs.OwnOpens.{few_own}
use Rattle.bgp_open.proofs.own_open.write_own_open.Goals as goal

pub unreachable-requires : goal.unreachable-requires
unreachable-requires g c = let few = few_own c.args.config.now in search rules
