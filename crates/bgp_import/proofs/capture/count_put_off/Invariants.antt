use Rattle.std.proofs.Common.{◌≡◌, ◌≤◌, ◌+◌, drop}
use Rattle.bgp_import.specs.Captures.{put_off}
use Rattle.bgp_import.proofs.capture.count_put_off.Given as goal

-- what is counted so far and the rest's make the whole
abbrev pub invariant-loop-entry : goal.invariant-loop-entry
invariant-loop-entry l = record {
  counts : l.count + put_off l.made (drop l.entry-index l.entries) ≡ put_off 0 l.entries;
  few : l.count ≤ l.entry-index;
}
