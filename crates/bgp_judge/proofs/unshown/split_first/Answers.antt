use Rattle.std.proofs.Common.{ap}
use Rattle.bgp_machine.specs.Want.{wants_of}
use Rattle.bgp_judge.proofs.unshown.split_first.Goals as goal

pub returns-in-Nothing : goal.returns-in-Nothing
returns-in-Nothing c = ap wants_of c.in-Nothing.is

pub returns-in-One : goal.returns-in-One
returns-in-One c = ap wants_of c.in-One.is

pub returns-in-Two : goal.returns-in-Two
returns-in-Two c = ap wants_of c.in-Two.is
