use Rattle.std.proofs.Common.{rules, arith}
use Rattle.bgp_tool.proofs.Fronts.{kept_is}
use Rattle.bgp_tool.proofs.front.WithFront.keep.Goals as goal

pub returns-clause-front : goal.returns-clause-front
returns-clause-front g c =
    let law = kept_is c.args.self.now.front.items c.args.octets.now c.remaining_capacity-room.result
    (omega (arith, c.remaining_capacity-room.ensures)) in
    search (rules, law)
