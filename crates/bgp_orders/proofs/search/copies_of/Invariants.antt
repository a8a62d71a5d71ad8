use Rattle.std.proofs.Common.{◌≡◌, map, take}
use Rattle.bgp_judge.specs.Plain.{member_value}
use Rattle.bgp_orders.proofs.search.copies_of.Given as goal

-- those so far are copied
abbrev pub invariant-loop-member : goal.invariant-loop-member
invariant-loop-member g l = map member_value l.copies.items ≡ map member_value (take l.member-index l.members)
