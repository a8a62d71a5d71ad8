use Rattle.bgp_list.specs.Forms.{line_json}
use Rattle.bgp_list.specs.Lines.{line_value}
use Rattle.bgp_list.proofs.Objects.{all_items, item_more, none_yet}
use Rattle.bgp_list.proofs.json_text.objects_of.Goals as goal

pub loop-line-init : goal.loop-line-init
loop-line-init g c = none_yet c.new-text.result.items c.new-text.ensures.items

pub loop-line-preserved : goal.loop-line-preserved
loop-line-preserved g c =
    item_more (λ line. line_json (line_value line)) c.args.list.now c.loop-line.line-index _ c.loop-line.text.items c.add_line.new.text.items c.loop-line-test.true
    c.loop-line.invariant c.in_ok-add_line.ensures

pub returns : goal.returns
returns g c = all_items (λ line. line_json (line_value line)) c.args.list.now c.loop-line.line-index c.loop-line.text.items c.loop-line-test.false c.loop-line.invariant
