use Rattle.bgp_text.proofs.Pieces.{Joins, and_then}
use Rattle.bgp_html.proofs.Steps.{ends_line}
use Rattle.bgp_html.proofs.report.Report.end_line.Goals as goal

pub returns : goal.returns
returns g c =
    let law : Joins g.W.Sink = record { joined = g.met.W.Sink.joined } in
    let self = c.args.self.now in
    ends_line self.lines _ self.element _ self.front.items _ self.notes _ c.args.kind c.args.count c.requires c.open_behind-self.ensures c.clear.ensures
    (and_then law c.put_escaped.ensures c.put_line_end.ensures) c.add_rest.ensures
