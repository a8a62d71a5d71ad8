use Rattle.std.proofs.Common.{◌≡◌, ◌≤◌, ◌+◌, count_by, drop}
use Rattle.bgp_instead.specs.MessageAt.{sends}
use Rattle.bgp_instead.proofs.message_at.count_sent.Given as goal

-- those so far and those that are left are all
abbrev pub invariant-loop-entry : goal.invariant-loop-entry
invariant-loop-entry l =
    (l.count ≤ l.entry-index)
    × (l.count + count_by sends (drop l.entry-index l.entries) ≡ count_by sends l.fn.entries)
