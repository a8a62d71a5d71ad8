use Rattle.std.proofs.Common.{[], ◌∷◌, None, Some, Ok, refl, subst}
use Rattle.packets.specs.Packet.{recorded_of}
use Rattle.segments.specs.Segment.{segment_value}
use Rattle.streams.specs.Held.{HoldsConnections}
use Rattle.streams.specs.Passed.{Segment}
use Rattle.bgp_import.specs.Selecting.{IsSentBy, passed_of}
use Rattle.bgp_import.proofs.Taken.{found_so}
use Rattle.bgp_import.proofs.gathering.take.Goals as goal

pub returns-in_default-clause-ok : goal.returns-in_default-clause-ok
returns-in_default-clause-ok g c =
    let s = c.in-Ok-Some.segment in
    let selected = rw (c.in-Ok-Some.is, c.in-Ok-Some.field-0-is) at c.segment_between.ensures in
    let sent : IsSentBy c.args.selection.now s.ends None = subst (IsSentBy c.args.selection.now s.ends) c.in_default.is c.sender.ensures in (
      [],
      record {
        found = Some (segment_value s);
        is_found = found_so c.args.selection.now (recorded_of c.args.packet.now) _ _ (Ok (Some (segment_value s))) selected c.conversation.ensures c.read_segment.ensures;
        is_part = (None, sent, refl);
      },
      λ before holds. holds,
    )

pub returns-in-Ok-clause-ok : goal.returns-in-Ok-clause-ok
returns-in-Ok-clause-ok g c =
    let s = c.in-Ok-Some.segment in
    let from = c.in-Some.from in
    let p = c.args.packet.now in
    let selected = rw (c.in-Ok-Some.is, c.in-Ok-Some.field-0-is) at c.segment_between.ensures in
    let sent : IsSentBy c.args.selection.now s.ends (Some from) = subst (IsSentBy c.args.selection.now s.ends) c.in-Some.is c.sender.ensures in (
      passed_of p.number (recorded_of p) (segment_value s) from ∷ [],
      record {
        found = Some (segment_value s);
        is_found = found_so c.args.selection.now (recorded_of p) _ _ (Ok (Some (segment_value s))) selected c.conversation.ensures c.read_segment.ensures;
        is_part = (Some from, sent, refl);
      },
      λ before holds. subst (λ (t : Segment). HoldsConnections (t ∷ before) c.take.new.self) c.passed.ensures (c.in-Ok.ensures.holds before holds),
    )
