use Rattle.std.proofs.Common.{refl}
use Rattle.bgp_wire.proofs.WholeFrame.{no_frame, frame_by_count}
use Rattle.bgp_wire.proofs.frames.is_frame.Goals as goal

pub returns-in-Faulty : goal.returns-in-Faulty
returns-in-Faulty c =
    no_frame c.args.limit c.args.octets.now c.in-Some.header.now c.in-Some.ensures.some c.in-Faulty.ensures.verdict.0

pub returns-in-Whole : goal.returns-in-Whole
returns-in-Whole c =
    frame_by_count c.args.limit c.args.octets.now c.in-Some.header.now _ _ c.in-Some.ensures.some (c.in-Some.ensures.whole.0 refl)
    c.in-Whole.ensures.verdict.0 c.in-Whole.ensures.verdict.1 c.are_so_many.ensures
