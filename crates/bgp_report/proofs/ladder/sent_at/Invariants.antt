use Rattle.std.proofs.Common.{◌≡◌, drop}
use Rattle.bgp_report.specs.Ladders.{sent_at}
use Rattle.bgp_report.proofs.ladder.sent_at.Given as goal

-- it is among those behind the ones so far
abbrev pub invariant-loop-place : goal.invariant-loop-place
invariant-loop-place l = sent_at 0 l.before l.entries ≡ sent_at l.place l.left (drop l.place l.entries)
