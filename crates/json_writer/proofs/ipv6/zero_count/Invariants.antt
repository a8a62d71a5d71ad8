use Rattle.std.proofs.Common.{◌≡◌, ◌+◌, ◌≤◌, drop}
use Rattle.json_writer.specs.ZeroGroups.{zero_groups}
use Rattle.json_writer.proofs.ipv6.zero_count.Given as goal

-- what is counted and what is left to count are all
abbrev pub invariant-loop-group : goal.invariant-loop-group
invariant-loop-group l = (l.zeros + zero_groups (drop l.group-index l.groups) ≡ zero_groups l.groups) × (l.zeros ≤ l.group-index)
