use Rattle.std.proofs.Common.{◌∙◌, ap, subst}
use Rattle.streams.specs.declared.passed.Side.{Side}
use Rattle.segments.specs.declared.found.Endpoint.{Endpoint}
use Rattle.bgp_import.specs.ListText.{end_of}
use Rattle.bgp_check_lines.specs.Lines.{PutsLines}
use Rattle.bgp_check_tool.specs.Text.{one_end_line}
use Rattle.bgp_text.proofs.Pieces.{Joins}
use Rattle.bgp_check_lines.proofs.Puts.{then_lines}
use Rattle.bgp_check_tool.proofs.blocks.put_neither.Goals as goal

pub returns : goal.returns
returns g c =
    let law : Joins g.W.Sink = record { joined = g.met.W.Sink.joined } in
    let one = subst (λ (e : Endpoint). PutsLines c.args.lines.now c.put_one_end.new.lines (one_end_line e)) c.end_of.ensures c.put_one_end.ensures in
    let its = c.end_of-2.ensures ∙ ap (λ (s : Side). end_of s c.args.session.now c.args.opening) c.other_side.ensures in
    let other = subst (λ (e : Endpoint). PutsLines c.put_one_end.new.lines c.put_one_end-2.new.lines (one_end_line e)) its c.put_one_end-2.ensures in
    then_lines law one other
