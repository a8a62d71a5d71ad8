use Rattle.bgp_list_laws.proofs.Printed.{same_refusals}
use Rattle.bgp_list_laws.proofs.laws.each_refusal_determines_its_text.Goals as goal

pub returns : goal.returns
returns c = same_refusals
