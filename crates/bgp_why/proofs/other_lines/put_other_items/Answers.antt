use Rattle.std.proofs.Common.{◌++◌, ◌<◌, ◌≤◌, ◌∷◌, [], None, refl, length, get_or}
use Rattle.bgp_text.proofs.Pieces.{Joins, and_then, nothing_yet}
use Rattle.bgp_why.specs.Items.{all_items, those_possible}
use Rattle.bgp_why.specs.Possible.{other_item_lines}
use Rattle.bgp_why.proofs.ItemLines.{one_more_other, none_left_other}
use Rattle.bgp_why.proofs.other_lines.put_other_items.Goals as goal

pub loop-item-init : goal.loop-item-init
loop-item-init g c = (
  [],
  nothing_yet g.W.Sink g.met.W.Sink.nothing c.args.lines.now.outlet c.args.lines.now.held.items,
  rw c.items_of.ensures refl,
)

pub loop-item-preserved : goal.loop-item-preserved
loop-item-preserved g c =
    let law : Joins g.W.Sink = record { joined = g.met.W.Sink.joined } in
    let so_far = c.loop-item.invariant in
    let items = c.items_of.result in
    let first = c.args.style.now.first in
    let within : c.loop-item.item-index < length items = rw c.items_of.ensures c.loop-item-test.true in (
      so_far.0 ++ other_item_lines first (those_possible (get_or items c.loop-item.item-index None ∷ [])),
      and_then law so_far.1 c.put_other_item.ensures,
      one_more_other first so_far.0 (other_item_lines first (those_possible (all_items c.args.others.now))) items c.loop-item.item-index within so_far.2,
    )

pub returns : goal.returns
returns g c =
    let so_far = c.loop-item.invariant in
    let first = c.args.style.now.first in
    let past : length c.items_of.result ≤ c.loop-item.item-index = rw c.items_of.ensures c.loop-item-test.false in
    rw (none_left_other first so_far.0 (other_item_lines first (those_possible (all_items c.args.others.now))) c.items_of.result c.loop-item.item-index past so_far.2) at so_far.1
