use Rattle.bgp_recording.specs.Told.{IsTold}
use Rattle.bgp_recording.proofs.MadeOrders.{IsOrdered}
use Rattle.bgp_recording.proofs.Seconds.{AreShort}
use Rattle.bgp_recording.proofs.UnderWay.{IsUnderWay, left_in}
use Rattle.bgp_recording.proofs.ordering.made_entries.Given as goal

-- what tells the rest, tells all behind the records so far; and it is the made order so far
abbrev pub invariant-loop-making : goal.invariant-loop-making
invariant-loop-making g l = record {
  told : IsTold l.exchange → IsUnderWay l.within l.exchange l.making;
  short : AreShort l.making;
  ordered : IsOrdered l.within l.exchange l.making;
}

abbrev pub decreases-loop-making : goal.decreases-loop-making
decreases-loop-making g l = left_in l.making.pending
