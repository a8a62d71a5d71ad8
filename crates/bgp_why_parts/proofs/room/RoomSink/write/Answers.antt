use Rattle.bgp_why_parts.proofs.Fronts.{keeps_more}
use Rattle.bgp_why_parts.proofs.room.RoomSink.write.Goals as goal

pub returns-clause-ok : goal.returns-clause-ok
returns-clause-ok c = λ all front.
    let few = rw c.len-free.ensures.value at c.min.ensures in
    keeps_more all c.args.octets.now c.args.self.now.kept.items c.try_extend_from_slice.new.self.items c.split_at.result.0.now c.min.result front few c.split_at.ensures.front c.in-Ok.ensures.ok
