use Rattle.std.proofs.Common.{drop, reverse, take}
use Rattle.bgp_lines.specs.Form.{nothing_before}
use Rattle.bgp_ladder.specs.Batch.{IsBatch}
use Rattle.bgp_ladder.specs.Ladder.{PutsRowsBefore, before_in}
use Rattle.bgp_ladder.specs.Runs.{IsRun}
use Rattle.bgp_ladder.proofs.OneRow.{Known}
use Rattle.bgp_ladder.proofs.rows.put_all.Given as goal

-- the rows of the entries so far are put, and what is known of these
abbrev pub invariant-loop-number : goal.invariant-loop-number
invariant-loop-number g l =
    PutsRowsBefore l.ladder l.possible (take l.number l.entries) (drop l.number l.entries) l.fn.lines l.lines
    × Known l.entries l.number l.before.previous l.before.greatest l.opens
    × IsRun l.ladder (reverse (take l.number l.entries)) (drop l.number l.entries) l.run
    × IsBatch l.ladder.framings (before_in nothing_before (take l.number l.entries)) (drop l.number l.entries) l.batch.left (drop l.batch.at l.batch.octets.items)
