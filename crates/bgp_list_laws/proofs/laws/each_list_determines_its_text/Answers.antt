use Rattle.bgp_list_laws.proofs.Printed.{same_lists}
use Rattle.bgp_list_laws.proofs.laws.each_list_determines_its_text.Goals as goal

pub returns : goal.returns
returns c = same_lists
