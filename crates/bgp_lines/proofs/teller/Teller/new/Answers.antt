use Rattle.bgp_lines.specs.Form.{nothing_before}
use Rattle.bgp_lines.proofs.TellerForms.{known_for}
use Rattle.bgp_lines.proofs.teller.Teller.new.Goals as goal

pub returns-clause-knows : goal.returns-clause-knows
returns-clause-knows c = known_for c.args.form _ nothing_before c.new.ensures
