use Rattle.std.proofs.Common.{◌++◌, ℕ, List, drop}
use Rattle.bgp_text.specs.Lines.{Writes}
use Rattle.bgp_ladder.specs.Batch.{AreDeeds}
use Rattle.bgp_ladder.proofs.deed.put_deeds.Given as goal

-- what is written are the words of those so far, behind which those of the others may stand
abbrev pub invariant-loop-place : goal.invariant-loop-place
invariant-loop-place g l =
    (octets : List ℕ) × Writes l.fn.lines l.lines octets
    × ((behind : List ℕ) → AreDeeds l.framings l.last (drop l.place l.entries) behind → AreDeeds l.framings l.opens l.entries (octets ++ behind))
