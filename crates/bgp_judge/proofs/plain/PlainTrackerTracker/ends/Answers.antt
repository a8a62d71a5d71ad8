use Rattle.std.proofs.Common.{map, subst}
use Rattle.bgp_judge.specs.Ends.{ListsEnds, end_value}
use Rattle.bgp_judge.specs.Plain.{ListsEndsBelow}
use Rattle.bgp_judge.proofs.EndLists.{lists_ends, if_ok_weaker}
use Rattle.bgp_judge.proofs.plain.PlainTrackerTracker.ends.Goals as goal

pub returns : goal.returns
returns g c = λ config records stands.
    if_ok_weaker c.ends_of.result (λ ends. ListsEndsBelow 4 c.as_slice.result.now (map end_value ends.items)) (λ ends. ListsEnds config records (map end_value ends.items))
    (λ ends below. lists_ends config records c.args.self.now.members.items (map end_value ends.items) stands.1
    (subst (λ v. ListsEndsBelow 4 v (map end_value ends.items)) c.as_slice.ensures.value below))
    c.ends_of.ensures
