use Rattle.bgp_json_verdicts.proofs.Counted.{of_verdict_whole}
use Rattle.bgp_json_verdicts.specs.Lines.{reason_value}
use Rattle.bgp_json_verdicts.specs.Objects.{reason_members, reason_type}
use Rattle.bgp_json_verdicts.proofs.object.write_reason.Goals as goal

pub returns : goal.returns
returns g c =
    let reason = reason_value c.args.reason.now in
    of_verdict_whole (reason_type reason) c.args.counts (reason_members reason) (rw c.reason_type.ensures at c.in_ok-begin_of_verdict.ensures) c.in_ok-put_reason.ensures c.end_object.ensures
