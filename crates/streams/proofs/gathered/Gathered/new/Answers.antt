use Rattle.std.proofs.Common.{◌∙◌, ap, arith, length}
use Rattle.streams.proofs.Holding.{empty_held}
use Rattle.streams.proofs.Places.{held}
use Rattle.streams.proofs.gathered.Gathered.new.Goals as goal

pub returns-clause-given : goal.returns-clause-given
returns-clause-given g c = λ place. held _ place (omega (arith, ap length c.new.ensures.octets)) ∙ empty_held c.new-2.result c.new-2.ensures.len place
