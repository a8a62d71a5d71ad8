use Rattle.std.proofs.Common.{sym}
use Rattle.bgp_ladder.proofs.ZeroPlaces.{zero_at, zero_nowhere}
use Rattle.bgp_ladder.proofs.batch.first_zero.Goals as goal

pub returns-in-Some-clause-value : goal.returns-in-Some-clause-value
returns-in-Some-clause-value c = sym (zero_at c.args.octets.now c.in-Some.place c.in-Some.ensures.0.high c.in-Some.ensures.1 c.in-Some.ensures.0.before)

pub returns-in-None-clause-value : goal.returns-in-None-clause-value
returns-in-None-clause-value c = sym (zero_nowhere c.args.octets.now c.in-None.ensures)
