use Rattle.std.proofs.Common.{codes}
use Rattle.bgp_json_verdicts.proofs.Counted.{of_end_whole}
use Rattle.bgp_json_verdicts.specs.Objects.{end_members}
use Rattle.bgp_json_verdicts.proofs.object.write_end.Goals as goal

pub returns : goal.returns
returns g c = of_end_whole (codes "end") c.args.counts (end_members c.args.state c.args.disabled) c.in_ok-begin_of_end.ensures c.in_ok-put_end.ensures c.end_object.ensures
