use Rattle.std.proofs.Common.{◌≡◌, ◌+◌, drop}
use Rattle.bgp_ladder.specs.Runs.{run_at}
use Rattle.bgp_ladder.proofs.runs.run_behind.Given as goal

-- so many behind the first belong to its run
abbrev pub invariant-loop-count : goal.invariant-loop-count
invariant-loop-count l =
    run_at l.ladder l.number (drop l.number l.entries) ≡ l.count + run_at l.ladder (l.number + l.count) (drop (l.number + l.count) l.entries)
