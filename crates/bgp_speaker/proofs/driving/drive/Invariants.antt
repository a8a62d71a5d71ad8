use Rattle.std.proofs.Common.{map, drop}
use Rattle.bgp_speaker.specs.Core.{fresh_core, without_offers}
use Rattle.bgp_speaker.specs.Shown.{shown_value}
use Rattle.bgp_speaker.specs.Driven.{input_at}
use Rattle.bgp_speaker.proofs.StillToCome.{GoesOnDriving}
use Rattle.bgp_speaker.proofs.driving.drive.Given as goal

abbrev pub invariant-loop-second : goal.invariant-loop-second
invariant-loop-second g l =
    GoesOnDriving (fresh_core (record { config = without_offers l.config; next_hop4 = l.next_hop4; next_hop6 = l.next_hop6 }))
    l.core (map input_at l.inputs) (map input_at (drop l.second-index l.inputs)) (map shown_value l.records.items) l.sent.items
