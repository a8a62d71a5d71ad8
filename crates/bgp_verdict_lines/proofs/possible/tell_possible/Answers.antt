use Rattle.std.proofs.Common.{◌++◌, ◌<◌, ◌≤◌, ◌∷◌, [], None, refl, length, get_or, not}
use Rattle.bgp_why.specs.Items.{those_possible}
use Rattle.bgp_why.specs.Lacks.{but_text}
use Rattle.bgp_text.proofs.Pieces.{Joins}
use Rattle.bgp_json_verdicts.specs.Lines.{item_values, possible_values}
use Rattle.bgp_json_verdicts.proofs.Told.{and_tell, nothing_told}
use Rattle.bgp_verdict_lines.proofs.ItemValues.{no_item, one_item}
use Rattle.bgp_verdict_lines.proofs.possible.tell_possible.Goals as goal

pub loop-item-init : goal.loop-item-init
loop-item-init g c = ([], nothing_told g.met.W.Sink.nothing c.args.lines.now c.args.telling.now, rw c.shown_items.ensures refl)

pub loop-item-preserved : goal.loop-item-preserved
loop-item-preserved g c =
    let law : Joins g.W.Sink = record { joined = g.met.W.Sink.joined } in
    let so_far = c.loop-item.invariant in
    let items = c.shown_items.result in
    let style = c.args.style.now in
    let but = but_text style.own_faults c.args.lacks.now in
    let is_owed = not c.args.possible.now.message in
    let within : c.loop-item.item-index < length items = rw c.shown_items.ensures c.loop-item-test.true in (
      so_far.0 ++ item_values is_owed c.args.is_next c.loop-item.is_first style.first but (those_possible (get_or items c.loop-item.item-index None ∷ [])),
      and_tell law so_far.1 c.tell_item_if-is_first.ensures.tells,
      rw c.tell_item_if-is_first.ensures.first
          (one_item is_owed c.args.is_next style.first but c.loop-item.is_first so_far.0 (possible_values style c.args.is_next but c.args.possible.now) items c.loop-item.item-index within so_far.2),
    )

pub returns : goal.returns
returns g c =
    let so_far = c.loop-item.invariant in
    let style = c.args.style.now in
    let but = but_text style.own_faults c.args.lacks.now in
    let is_owed = not c.args.possible.now.message in
    let past : length c.shown_items.result ≤ c.loop-item.item-index = rw c.shown_items.ensures c.loop-item-test.false in
    rw (no_item is_owed c.args.is_next style.first but c.loop-item.is_first so_far.0 (possible_values style c.args.is_next but c.args.possible.now) c.shown_items.result c.loop-item.item-index past so_far.2) at so_far.1
