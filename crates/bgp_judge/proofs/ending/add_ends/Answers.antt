use Rattle.std.proofs.Common.{map}
use Rattle.bgp_judge.specs.Ends.{end_value, place_of}
use Rattle.bgp_judge.proofs.EndLists.{none_so_far, one_more_end, all_ends}
use Rattle.bgp_judge.proofs.ending.add_ends.Goals as goal

pub loop-member-init : goal.loop-member-init
loop-member-init g c = none_so_far (place_of c.args.families) c.args.members.now (map end_value c.args.ends.now.items) c.requires

pub loop-member-preserved : goal.loop-member-preserved
loop-member-preserved g c =
    one_more_end c.args.families c.args.members.now c.loop-member.member-index c.member-item.result (map end_value c.loop-member.ends.items)
    (map end_value c.add_end.new.ends.items) c.loop-member-test.true c.member-item.is c.loop-member.invariant c.in_ok-add_end.ensures

pub returns : goal.returns
returns g c =
    all_ends (place_of c.args.families) c.args.members.now c.loop-member.member-index (map end_value c.loop-member.ends.items) c.loop-member-test.false c.loop-member.invariant
