use Rattle.std.proofs.Common.{◌≡◌, ◌≤◌, ◌-◌, ◌^◌}
use Rattle.bgp_import.proofs.ReadSoFar.{SoFar}
use Rattle.bgp_import.proofs.talks.take_all.Given as goal

-- what was read so far, and what is held of it
abbrev pub invariant-loop-packet : goal.invariant-loop-packet
invariant-loop-packet g l = record {
  so_far : SoFar g.R.Source.gives g.R.Source.has_ended g.met.R.Source.joined l.fn.talks.port l.fn.source l.source l.reader l.talks;
  one_source : l.reader.number ≤ g.R.Source.given_count l.source;
  calm : g.R.Source.failures l.source ≡ g.R.Source.failures l.fn.source;
}

abbrev pub decreases-loop-packet : goal.decreases-loop-packet
decreases-loop-packet g l = 2 ^ 63 - l.reader.number
