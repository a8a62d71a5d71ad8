use Rattle.std.proofs.Common.{length}
use Rattle.bgp_rib.specs.Rooms.{LeadsBack, HasEach}
use Rattle.bgp_rib.proofs.writing.undo.Given as goal

abbrev pub invariant-loop-note : goal.invariant-loop-note
invariant-loop-note g l = record {
  back : LeadsBack l.log.items l.table l.fn.log.items l.fn.table;
  noted : HasEach l.log.items l.table;
}

abbrev pub decreases-loop-note : goal.decreases-loop-note
decreases-loop-note g l = length l.log.items
