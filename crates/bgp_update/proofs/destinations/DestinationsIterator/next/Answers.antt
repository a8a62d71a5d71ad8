use Rattle.std.proofs.Common.{length, ap, arith}
use Rattle.bgp_update.proofs.DestinationLists.{yields, yields_none}
use Rattle.bgp_update.proofs.destinations.DestinationsIterator.next.Goals as goal

pub returns-in_default-clause-steps : goal.returns-in_default-clause-steps
returns-in_default-clause-steps c =
    let field = c.self.inside.rest in
    let none = yields_none field.identified field.family field.octets.now c.in_default.ensures.none c.self.invariant in
    (cc, cc)

pub invariant_of-self : goal.invariant_of-self
invariant_of-self c =
    let field = c.self.inside.rest in
    (yields field.identified field.family field.octets.now c.split_at.result.1.now _ _ c.in-Some.ensures.some c.split_at.ensures.back c.self.invariant).whole

pub returns-clause-steps : goal.returns-clause-steps
returns-clause-steps c =
    let field = c.self.inside.rest in
    let on = yields field.identified field.family field.octets.now c.split_at.result.1.now _ _ c.in-Some.ensures.some c.split_at.ensures.back c.self.invariant in
    let first = on.first in
    cc

pub returns-clause-goes : goal.returns-clause-goes
returns-clause-goes c =
    let longer = ap length (returns-clause-steps c) in
    record { on = λ finite. (tt, tt, omega arith); keeps = tt; rests = λ finite. tt }
