use Rattle.std.proofs.Common.{◌++◌, ◌<◌, ◌≤◌, ◌∷◌, [], None, refl, length, get_or}
use Rattle.bgp_why.specs.Items.{all_items, those_possible}
use Rattle.bgp_why.specs.OtherOrders.{besides}
use Rattle.bgp_text.proofs.Pieces.{Joins}
use Rattle.bgp_json_verdicts.specs.Lines.{other_item_values}
use Rattle.bgp_json_verdicts.proofs.Told.{and_tell, nothing_told}
use Rattle.bgp_verdict_lines.proofs.ItemValues.{no_other, one_other}
use Rattle.bgp_verdict_lines.proofs.others.tell_others.Goals as goal

pub loop-item-init : goal.loop-item-init
loop-item-init g c = ([], nothing_told g.met.W.Sink.nothing c.args.lines.now c.args.telling.now, rw c.other_items.ensures refl)

pub loop-item-preserved : goal.loop-item-preserved
loop-item-preserved g c =
    let law : Joins g.W.Sink = record { joined = g.met.W.Sink.joined } in
    let so_far = c.loop-item.invariant in
    let items = c.other_items.result in
    let first = c.args.style.now.first in
    let within : c.loop-item.item-index < length items = rw c.other_items.ensures c.loop-item-test.true in (
      so_far.0 ++ other_item_values first (those_possible (get_or items c.loop-item.item-index None ∷ [])),
      and_tell law so_far.1 c.tell_other.ensures,
      one_other first so_far.0 (other_item_values first (those_possible (all_items (besides c.args.possible.now c.args.others.now)))) items c.loop-item.item-index within so_far.2,
    )

pub returns : goal.returns
returns g c =
    let so_far = c.loop-item.invariant in
    let first = c.args.style.now.first in
    let past : length c.other_items.result ≤ c.loop-item.item-index = rw c.other_items.ensures c.loop-item-test.false in
    rw (no_other first so_far.0 (other_item_values first (those_possible (all_items (besides c.args.possible.now c.args.others.now)))) c.other_items.result c.loop-item.item-index past so_far.2) at so_far.1
