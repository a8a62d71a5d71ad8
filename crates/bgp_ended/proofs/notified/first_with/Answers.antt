use Rattle.std.proofs.Common.{option_map}
use Rattle.bgp_ended.specs.Notified.{said_as}
use Rattle.bgp_ended.specs.Values.{ended_value}
use Rattle.bgp_ended.proofs.Firsts.{none_more}
use Rattle.bgp_ended.proofs.notified.first_with.Goals as goal

pub returns-in-None : goal.returns-in-None
returns-in-None c = λ before has.
    none_more before (said_as c.args.by c.args.message.now) (option_map ended_value c.args.first) has c.in-None.ensures.none
