use Rattle.std.proofs.Common.{◌++◌, [], get_or, map, refl}
use Rattle.bgp_parts.specs.declared.update.UpdatePart.TheVariants as parts
use Rattle.bgp_parts.specs.UpdateParts.{shown_part}
use Rattle.bgp_names.proofs.Pieces.{Joins, and_then, nothing_yet}
use Rattle.bgp_why_parts.specs.Updates.{part_text, update_parts_text}
use Rattle.bgp_why_parts.proofs.PartByPart.{one_more, none_left}
use Rattle.bgp_why_parts.proofs.updates.put_update_parts.Goals as goal

pub loop-part-init : goal.loop-part-init
loop-part-init g c =
    ([], nothing_yet g.W.Sink g.met.W.Sink.nothing c.args.lines.now.outlet c.args.lines.now.held.items, refl)

pub loop-part-preserved : goal.loop-part-preserved
loop-part-preserved g c =
    let law : Joins g.W.Sink = record { joined = g.met.W.Sink.joined } in
    let so_far = c.loop-part.invariant in
    let told = c.args.parts.now in
    let before = c.loop-part.separator.now in (
      so_far.0 ++ (before ++ part_text c.args.is_sent (shown_part (get_or told c.loop-part.part-index parts.LengthsRunOver))),
      and_then law so_far.1 (and_then law c.put.ensures c.put_part.ensures),
      one_more c.args.is_sent before so_far.0 (update_parts_text c.args.is_sent (map shown_part told)) told c.loop-part.part-index parts.LengthsRunOver c.loop-part-test.true so_far.2,
    )

pub returns : goal.returns
returns g c =
    let so_far = c.loop-part.invariant in
    let told = c.args.parts.now in
    rw (none_left c.args.is_sent c.loop-part.separator.now so_far.0 (update_parts_text c.args.is_sent (map shown_part told)) told c.loop-part.part-index c.loop-part-test.false so_far.2) at so_far.1
