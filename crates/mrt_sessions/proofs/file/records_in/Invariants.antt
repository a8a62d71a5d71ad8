use Rattle.std.proofs.Common.{length, map}
use Rattle.mrt_sessions.specs.Located.{located}
use Rattle.mrt_sessions.proofs.Parts.{SoFar}
use Rattle.mrt_sessions.proofs.file.records_in.Given as goal

-- what was read so far, and what is left
abbrev pub invariant-loop-refusal : goal.invariant-loop-refusal
invariant-loop-refusal g l = SoFar l.octets l.rest (map located l.records.items) l.offset l.is_plain

abbrev pub decreases-loop-refusal : goal.decreases-loop-refusal
decreases-loop-refusal g l = length l.rest
