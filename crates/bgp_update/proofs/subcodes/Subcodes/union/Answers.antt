use Rattle.bgp_update.specs.Subcodes.{marks_of}
use Rattle.bgp_update.proofs.Marks.{joined}
use Rattle.bgp_update.proofs.subcodes.Subcodes.union.Goals as goal

pub returns : goal.returns
returns c = λ n. joined (marks_of c.args.self) (marks_of c.args.other) tt n
