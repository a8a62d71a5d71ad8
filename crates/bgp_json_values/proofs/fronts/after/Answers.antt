use Rattle.std.proofs.Common.{arith}
use Rattle.bgp_json_values.proofs.FrontsCompared.{others, too_few}
use Rattle.bgp_json_values.proofs.fronts.after.Goals as goal

pub returns-then-octets-front : goal.returns-then-octets-front
returns-then-octets-front c = too_few c.args.front.now c.args.octets.now (omega arith)

pub returns-else-eq : goal.returns-else-eq
returns-else-eq c =
    others c.args.front.now c.args.octets.now c.split_at.result.0.now c.split_at.result.1.now c.split_at.ensures.by_index.0 c.split_at.ensures.front_len c.if-eq.ensures
