use Rattle.std.proofs.Common.{map, take}
use Rattle.bgp_judge.specs.Ends.{end_value, place_of}
use Rattle.bgp_judge.proofs.EndLists.{EndsSoFar}
use Rattle.bgp_judge.proofs.ending.add_ends.Given as goal

-- the ends of the members so far are there besides
abbrev pub invariant-loop-member : goal.invariant-loop-member
invariant-loop-member g l = EndsSoFar (place_of l.families) l.members (take l.member-index l.members) (map end_value l.ends.items)
