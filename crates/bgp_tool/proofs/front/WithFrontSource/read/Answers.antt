use Rattle.std.proofs.Common.{rules}
use Rattle.bgp_tool.specs.FrontLaws.{kept_nothing}
use Rattle.bgp_tool.proofs.front.WithFrontSource.read.Goals as goal

pub returns-in_err-count-clause-err : goal.returns-in_err-count-clause-err
returns-in_err-count-clause-err g c =
    let law = kept_nothing c.args.self.now.front.items c.args.self.now.within in search (rules, law)
