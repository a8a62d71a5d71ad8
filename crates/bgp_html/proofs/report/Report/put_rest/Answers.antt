use Rattle.bgp_html.proofs.Steps.{puts_rest}
use Rattle.bgp_html.proofs.report.Report.put_rest.Goals as goal

pub returns-clause-puts : goal.returns-clause-puts
returns-clause-puts g c =
    let self = c.args.self.now in
    puts_rest self.lines _ self.element self.front.items self.notes _ c.args.kind c.args.count c.args.octets.now c.requires.element c.requires.none
    c.put_escaped.ensures c.add_rest.ensures
