use Rattle.bgp_compact.specs.declared.falls.Fall.TheVariants.{Faulted}
use Rattle.bgp_compact.proofs.falls.Falls.is_empty.Goals as goal

pub returns-in-Some-clause-no : goal.returns-in-Some-clause-no
returns-in-Some-clause-no c = λ n. (Faulted c.in-Some.field-0, c.in-Some.is)
