use Rattle.bgp_judge.proofs.Lacking.{lacks_none_behind}
use Rattle.bgp_judge.proofs.laws.memory_is_lacked_behind_no_impossible_record.Goals as goal

pub returns : goal.returns
returns g c = lacks_none_behind g.T.Tracker.may_lack_at_start g.T.Tracker.may_lack
