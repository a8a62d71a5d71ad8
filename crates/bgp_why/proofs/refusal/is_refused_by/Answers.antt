use Rattle.std.proofs.Common.{[]}
use Rattle.bgp_why.proofs.refusal.is_refused_by.Goals as goal

pub returns : goal.returns
returns c =
    let faults = c.open_faults.ensures.must c.args.subcode [] in
    (λ is. faults.0 (c.contains.ensures.0 is), λ refused. c.contains.ensures.1 (faults.1 refused))
