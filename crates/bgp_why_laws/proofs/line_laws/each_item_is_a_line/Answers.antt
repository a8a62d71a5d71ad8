use Rattle.bgp_why_laws.proofs.Lines.{items, others}
use Rattle.bgp_why_laws.proofs.line_laws.each_item_is_a_line.Goals as goal

pub returns-clause-items : goal.returns-clause-items
returns-clause-items g c = items c.args.lacks.now

pub returns-clause-others : goal.returns-clause-others
returns-clause-others g c = others
