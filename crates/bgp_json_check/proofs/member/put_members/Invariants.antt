use Rattle.std.proofs.Common.{◌≡◌, ◌++◌, drop}
use Rattle.std.specs.List.{flat_map}
use Rattle.bgp_json_values.specs.Objects.{members_tokens}
use Rattle.bgp_json_check.specs.Members.{all_members}
use Rattle.bgp_json_check.proofs.InParts.{member_tokens}
use Rattle.bgp_json_check.proofs.member.put_members.Given as goal

-- what is written and what is left to write are all
abbrev pub invariant-loop-member : goal.invariant-loop-member
invariant-loop-member g l =
    (l.writer.before ≡ l.fn.writer.before)
    × (l.writer.tokens ++ flat_map member_tokens (drop l.member-index l.fn.members)
    ≡ l.fn.writer.tokens ++ members_tokens (all_members l.fn.members))
