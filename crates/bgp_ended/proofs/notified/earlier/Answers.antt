use Rattle.std.proofs.Common.{Option, arith, option_map, subst}
use Rattle.bgp_ended.specs.Notified.{HasFirst}
use Rattle.bgp_ended.specs.Values.{ended_value}
use Rattle.bgp_ended.specs.declared.ended.Ended.{Ended}
use Rattle.bgp_ended.proofs.Firsts.{next_earlier}
use Rattle.bgp_ended.proofs.notified.earlier.Goals as goal

pub returns-then-next-first : goal.returns-then-next-first
returns-then-next-first c = λ before said has notifies.
    next_earlier before said (ended_value c.in-Some.first) (ended_value c.args.next) (subst (λ (o : Option Ended). HasFirst before (option_map ended_value o)) c.in-Some.is has) notifies (omega (arith, c.if-next-first.true))
