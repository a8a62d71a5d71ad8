use Rattle.std.proofs.Common.{◌++◌, ◌<◌, ◌≤◌, ◌∷◌, [], None, refl, length, get_or}
use Rattle.bgp_text.proofs.Pieces.{Joins, and_then, nothing_yet}
use Rattle.bgp_why.specs.Items.{those_possible}
use Rattle.bgp_why.specs.Lacks.{but_text}
use Rattle.bgp_why.specs.Possible.{item_lines, shown_lines}
use Rattle.bgp_why.proofs.ItemLines.{one_more, none_left}
use Rattle.bgp_why.proofs.possible.put_lines.Goals as goal

pub loop-item-init : goal.loop-item-init
loop-item-init g c = (
  [],
  nothing_yet g.W.Sink g.met.W.Sink.nothing c.args.lines.now.outlet c.args.lines.now.held.items,
  rw (c.first_word-word.ensures, c.items_of.ensures, c.possible_shown-shown.ensures) refl,
)

pub loop-item-preserved : goal.loop-item-preserved
loop-item-preserved g c =
    let law : Joins g.W.Sink = record { joined = g.met.W.Sink.joined } in
    let so_far = c.loop-item.invariant in
    let items = c.items_of.result in
    let style = c.args.style.now in
    let but = but_text style.own_faults c.args.lacks.now in
    let within : c.loop-item.item-index < length items = rw c.items_of.ensures c.loop-item-test.true in (
      so_far.0 ++ item_lines style.first but c.loop-item.word.now (those_possible (get_or items c.loop-item.item-index None ∷ [])),
      and_then law so_far.1 c.put_next_line-word.ensures.writes,
      rw c.put_next_line-word.ensures.word
          (one_more style.first but c.loop-item.word.now so_far.0 (shown_lines style c.args.is_next but c.args.possible.now) items c.loop-item.item-index within so_far.2),
    )

pub returns : goal.returns
returns g c =
    let so_far = c.loop-item.invariant in
    let style = c.args.style.now in
    let but = but_text style.own_faults c.args.lacks.now in
    let past : length c.items_of.result ≤ c.loop-item.item-index = rw c.items_of.ensures c.loop-item-test.false in
    rw (none_left style.first but c.loop-item.word.now so_far.0 (shown_lines style c.args.is_next but c.args.possible.now) c.items_of.result c.loop-item.item-index past so_far.2) at so_far.1
