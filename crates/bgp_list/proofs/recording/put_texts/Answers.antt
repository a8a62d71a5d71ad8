use Rattle.std.proofs.Common.{List, subst}
use Rattle.std.specs.List.{flat_map}
use Rattle.bgp_text.proofs.Pieces.{Joins, nothing_yet}
use Rattle.bgp_text.specs.Lines.{Writes}
use Rattle.bgp_list.specs.Lines.{LineValue, line_text}
use Rattle.bgp_list.proofs.PutSoFar.{all_taken, text_more}
use Rattle.bgp_list.proofs.recording.put_texts.Goals as goal

pub loop-line-init : goal.loop-line-init
loop-line-init g c = nothing_yet g.W.Sink g.met.W.Sink.nothing c.args.lines.now.outlet c.args.lines.now.held.items

pub loop-line-preserved : goal.loop-line-preserved
loop-line-preserved g c =
    let law : Joins g.W.Sink = record { joined = g.met.W.Sink.joined } in
    text_more law c.args.list.now c.loop-line.line-index _ c.args.lines.now c.loop-line.lines c.put.new.lines c.loop-line-test.true c.loop-line.invariant c.put.ensures

pub returns : goal.returns
returns g c =
    subst (λ (ls : List LineValue). Writes c.args.lines.now c.loop-line.lines (flat_map line_text ls)) (all_taken c.args.list.now c.loop-line.line-index c.loop-line-test.false)
    c.loop-line.invariant
