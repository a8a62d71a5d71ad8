use Rattle.bgp_commands.proofs.saying.nothing.Goals as goal

pub returns-in-Some : goal.returns-in-Some
returns-in-Some g c =
    rw c.in-Some.is
    (rw c.in_order.ensures at (g.met.V.Voice.joined _ _ _ _ _ c.say.ensures c.each_wrapped.ensures))
